-- What is asked for, and what tables answer of it.
use Rattle.kit_words.proofs.Common.{◌≡◌, ◌<◌, ◌+◌, ◌||◌, ℕ, zero, suc, Bool, true, false, cond, refl, sym, ap, ◌∙◌}
use Rattle.kit_words.proofs.Common.{subst, List, [], ◌∷◌, ◌++◌, length, map, take, get_or, arith, Option, Some, None}
use Rattle.kit_words.proofs.Common.{option_map, unwrap_or, Vec, is_eq, IsTotalOrder, tied_itself, Ordering, map-append}
use Rattle.kit_words.proofs.Common.{take_more, list_any-append, or_right}
use Rattle.std.proofs.Common.{All}
use Rattle.std.specs.BTreeMap.{BTreeMap, IsEmpty}
use Rattle.std.specs.Map.{lookup}
use Rattle.grid_geometry.specs.Common.{Position, position_cmp, Segment, segment_cmp}
use Rattle.ring_machine.proofs.Common.{position_total}
use Rattle.segment_index.proofs.Common.{segment_total}
use Rattle.segment_paths.specs.Common.{PathOfSegment}
use Rattle.walk_faults.specs.declared.findings.Crossing.{Crossing}
use Rattle.walk_faults.specs.declared.findings.Findings.{Findings}
use Rattle.walk_faults.specs.declared.findings.Touch.{Touch}
use Rattle.walk_faults.specs.Common.{flat_map_at}
use Rattle.place_text.specs.Common.{Cross, Side, Tables, vertex_features, segment_features, crossing_sides, sides_of}
use Rattle.place_text.specs.Common.{touch_side, is_among, asked_with, numbers_in, touch_pos, side_segment, path_segment}
use Rattle.place_text.specs.Common.{TellsAll, AreEmpty, Answers}

module _ {K : Type 0} (cmp : K → K → Ordering) where
  -- ---- one key after another

  asked_or : (a b : Bool) (o : Option (List ℕ)) → cond b (Some []) (cond a (Some []) o) ≡ cond (a || b) (Some []) o
  asked_or true true o = refl
  asked_or true false o = refl
  asked_or false true o = refl
  asked_or false false o = refl

  asked_both : (xs ys : List K) (k : K) (o : Option (List ℕ)) → asked_with cmp ys k (asked_with cmp xs k o) ≡ asked_with cmp (xs ++ ys) k o
  asked_both xs ys k o =
      asked_or (is_among cmp xs k) (is_among cmp ys k) o ∙ ap (λ b. cond b (Some []) o) (sym (list_any-append (λ t. is_eq (cmp t k)) xs ys))

  -- one more
  pub asked_next : {X : Type 0} (f : X → K) (xs : List X) (i : ℕ) (x : X) (k : K) (o mid new : Option (List ℕ)) → i < length xs → x ≡ get_or xs i x
      → mid ≡ asked_with cmp (map f (take i xs)) k o → new ≡ asked_with cmp (f x ∷ []) k mid → new ≡ asked_with cmp (map f (take (i + 1) xs)) k o
  asked_next f xs i x k o mid new l e p q =
      let next : map f (take (i + 1) xs) ≡ map f (take i xs) ++ f x ∷ [] =
      ap (map f) (take_more xs i x l ∙ ap (λ z. take i xs ++ z ∷ []) (sym e)) ∙ map-append f (take i xs) (x ∷ []) in
      q ∙ ap (asked_with cmp (f x ∷ []) k) p ∙ asked_both (map f (take i xs)) (f x ∷ []) k o ∙ ap (λ ks. asked_with cmp ks k o) (sym next)

  -- ---- nothing is told before anything is

  pub nothing_in : {A : Type 0} (table : BTreeMap K (Vec ℕ A)) (k : K) → IsEmpty table → numbers_in cmp table k ≡ None
  nothing_in table k e = ap (λ es. option_map (λ v. v.items) (lookup (λ q. is_eq (cmp k q)) es)) e

  empty_or : (a : Bool) (o : Option (List ℕ)) → o ≡ option_map (λ ns. []) o → cond a (Some []) o ≡ option_map (λ ns. []) (cond a (Some []) o)
  empty_or true o h = refl
  empty_or false o h = h

  pub still_empty : (keys : List K) (k : K) (o new : Option (List ℕ)) → new ≡ asked_with cmp keys k o → o ≡ option_map (λ ns. []) o → new ≡ option_map (λ ns. []) new
  still_empty keys k o new e h =
      e ∙ empty_or (is_among cmp keys k) o h ∙ ap (option_map (λ ns. [])) (sym e)

  -- ---- what is asked for is answered

  itself : IsTotalOrder cmp → (k : K) → is_eq (cmp k k) ≡ true
  itself total k = ap is_eq (tied_itself total k)

  pub among_mapped : IsTotalOrder cmp → {X : Type 0} (f : X → K) (xs : List X) (i : ℕ) (d : X) → i < length xs → is_among cmp (map f xs) (f (get_or xs i d)) ≡ true
  among_mapped total f [] i d l = absurd (omega (arith, l))
  among_mapped total f (x ∷ xs) zero d l = ap (λ b. b || is_among cmp (map f xs) (f x)) (itself total (f x))
  among_mapped total f (x ∷ xs) (suc i) d l =
      let k = f (get_or xs i d) in
      or_right (is_eq (cmp (f x) k)) (is_among cmp (map f xs) k) (among_mapped total f xs i d (omega (arith, l)))

  -- one that was asked for
  pub answer_is : (keys : List K) (k : K) (told : List ℕ) (o asked new : Option (List ℕ)) → is_among cmp keys k ≡ true → asked ≡ asked_with cmp keys k o
      → new ≡ option_map (λ ns. told) asked → unwrap_or new [] ≡ told
  answer_is keys k told o asked new there e h =
      ap (λ z. unwrap_or z []) (h ∙ ap (option_map (λ ns. told)) (e ∙ ap (λ b. cond b (Some []) o) there))

  -- the same, where others were asked for after it
  pub answer_before : (keys others : List K) (k : K) (told : List ℕ) (o mid asked new : Option (List ℕ)) → is_among cmp keys k ≡ true → mid ≡ asked_with cmp keys k o
      → asked ≡ asked_with cmp others k mid → new ≡ option_map (λ ns. told) asked → unwrap_or new [] ≡ told
  answer_before keys others k told o mid asked new there e f h =
      let both : is_among cmp (others ++ keys) k ≡ true =
      list_any-append (λ t. is_eq (cmp t k)) others keys ∙ or_right (is_among cmp others k) (is_among cmp keys k) there in
      let same : asked_with cmp others k (asked_with cmp keys k o) ≡ asked_with cmp (others ++ keys) k o =
      asked_both keys others k o ∙ by (is_among cmp keys k) (is_among cmp others k) in
      answer_is (others ++ keys) k told o asked new both (f ∙ ap (asked_with cmp others k) e ∙ same) h
    where
      swapped : (a b : Bool) → cond (a || b) (Some []) o ≡ cond (b || a) (Some []) o
      swapped true true = refl
      swapped true false = refl
      swapped false true = refl
      swapped false false = refl

      by : (a b : Bool) → asked_with cmp (keys ++ others) k o ≡ asked_with cmp (others ++ keys) k o
      by a b =
          ap (λ c. cond c (Some []) o) (list_any-append (λ t. is_eq (cmp t k)) keys others) ∙ swapped (is_among cmp keys k) (is_among cmp others k)
          ∙ ap (λ c. cond c (Some []) o) (sym (list_any-append (λ t. is_eq (cmp t k)) others keys))

-- ---- the segments of the pairs are among those of the findings

all_behind : {X : Type 0} (P : X → Type 0) (xs ys : List X) → All P (xs ++ ys) → All P ys
all_behind P [] ys h = h
all_behind P (x ∷ xs) ys h = all_behind P xs ys (λ k d l. h (suc k) d (omega (arith, l)))

of_pairs : (P : Segment → Type 0) (n : ℕ) (cs : List Crossing) → All (λ (s : Side). P s.segment) (flat_map_at crossing_sides n cs) → All (λ (c : Crossing). P c.first × P c.second) cs
of_pairs P n [] h k d l = absurd (omega (arith, l))
of_pairs P n (c ∷ cs) h zero d l =
    let any : Side = record { segment = c.first; kind = Cross; number = n } in
    (h 0 any (omega arith), h 1 any (omega arith))
of_pairs P n (c ∷ cs) h (suc k) d l = of_pairs P (suc n) cs (λ j e m. h (suc (suc j)) e (omega (arith, m))) k d (omega (arith, l))

pub pairs_among : {A : Type 0} (P : Segment → Type 0) (found : Findings A) (sides : List Side) → sides ≡ sides_of found → All (λ (s : Side). P s.segment) sides
    → All (λ (c : Crossing). P c.first × P c.second) found.crossings.items
pairs_among P found sides e h =
    of_pairs P 0 found.crossings.items (all_behind (λ (s : Side). P s.segment) (flat_map_at touch_side 0 found.touches.items) (flat_map_at crossing_sides 0 found.crossings.items)
    (subst (All (λ (s : Side). P s.segment)) e h))

-- ---- all that was asked for is answered

pub answers : {A : Type 0} (features : List (List (List (List Position)))) (touches : List Touch) (sides : List Side) (paths : List PathOfSegment)
    (v : BTreeMap Position (Vec ℕ A)) (s t : BTreeMap Segment (Vec ℕ A)) (mid new : Tables A)
    → ((p : Position) → numbers_in position_cmp mid.vertices p ≡ asked_with position_cmp (map touch_pos touches) p (numbers_in position_cmp v p))
    → ((q : Segment) → numbers_in segment_cmp t q ≡ asked_with segment_cmp (map side_segment sides) q (numbers_in segment_cmp s q))
    → ((q : Segment) → numbers_in segment_cmp mid.segments q ≡ asked_with segment_cmp (map path_segment paths) q (numbers_in segment_cmp t q))
    → TellsAll features mid new → Answers features touches sides paths new
answers features touches sides paths v s t mid new vs ss ps told = record {
  at_touches = λ k d l. let p = touch_pos (get_or touches k d) in
      answer_is position_cmp (map touch_pos touches) p (vertex_features features p) (numbers_in position_cmp v p) (numbers_in position_cmp mid.vertices p)
      (numbers_in position_cmp new.vertices p) (among_mapped position_cmp position_total touch_pos touches k d l) (vs p) (told.vertices p);
  at_sides = λ k d l. let q = side_segment (get_or sides k d) in
      answer_before segment_cmp (map side_segment sides) (map path_segment paths) q (segment_features features q) (numbers_in segment_cmp s q) (numbers_in segment_cmp t q)
      (numbers_in segment_cmp mid.segments q) (numbers_in segment_cmp new.segments q)
      (among_mapped segment_cmp segment_total side_segment sides k d l) (ss q) (ps q) (told.segments q);
  at_paths = λ k d l. let q = path_segment (get_or paths k d) in
      answer_is segment_cmp (map path_segment paths) q (segment_features features q) (numbers_in segment_cmp t q) (numbers_in segment_cmp mid.segments q)
      (numbers_in segment_cmp new.segments q) (among_mapped segment_cmp segment_total path_segment paths k d l) (ps q) (told.segments q);
}

-- nothing is reported of what is asked for
pub empty_yet : {A : Type 0} (touches : List Touch) (sides : List Side) (paths : List PathOfSegment) (v : BTreeMap Position (Vec ℕ A)) (s t : BTreeMap Segment (Vec ℕ A)) (mid : Tables A)
    → IsEmpty v → IsEmpty s
    → ((p : Position) → numbers_in position_cmp mid.vertices p ≡ asked_with position_cmp (map touch_pos touches) p (numbers_in position_cmp v p))
    → ((q : Segment) → numbers_in segment_cmp t q ≡ asked_with segment_cmp (map side_segment sides) q (numbers_in segment_cmp s q))
    → ((q : Segment) → numbers_in segment_cmp mid.segments q ≡ asked_with segment_cmp (map path_segment paths) q (numbers_in segment_cmp t q))
    → AreEmpty mid
empty_yet touches sides paths v s t mid no_vertices no_segments vs ss ps = record {
  vertices = λ p. still_empty position_cmp (map touch_pos touches) p (numbers_in position_cmp v p) (numbers_in position_cmp mid.vertices p) (vs p)
      (none_is (numbers_in position_cmp v p) (nothing_in position_cmp v p no_vertices));
  segments = λ q. still_empty segment_cmp (map path_segment paths) q (numbers_in segment_cmp t q) (numbers_in segment_cmp mid.segments q) (ps q)
      (still_empty segment_cmp (map side_segment sides) q (numbers_in segment_cmp s q) (numbers_in segment_cmp t q) (ss q)
      (none_is (numbers_in segment_cmp s q) (nothing_in segment_cmp s q no_segments)));
}
  where
    none_is : (o : Option (List ℕ)) → o ≡ None → o ≡ option_map (λ ns. []) o
    none_is o e = e ∙ ap (option_map (λ ns. [])) (sym e)
