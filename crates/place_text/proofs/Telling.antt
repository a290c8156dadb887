-- What tables hold, while features are reported one after another.
use Rattle.kit_words.proofs.Common.{◌≡◌, ◌<◌, ◌≤◌, ◌+◌, ℕ, zero, suc, Bool, true, false, cond, refl, sym, ap, ap₂, ◌∙◌}
use Rattle.kit_words.proofs.Common.{subst, List, [], ◌∷◌, ◌++◌, length, map, take, drop, get_or, drop-cons, arith}
use Rattle.kit_words.proofs.Common.{Option, Some, None, option_map, flat_map, list_any, is_eq, take-map, length-map}
use Rattle.kit_words.proofs.Common.{flat_mapped_more}
use Rattle.grid_geometry.specs.Common.{Position, position_cmp, position_eq, Segment, segment, segment_cmp, segment_eq}
use Rattle.grid_geometry.specs.Common.{links}
use Rattle.ring_machine.proofs.Common.{position_eq-true, position_eq-sym, ties}
use Rattle.segment_index.proofs.Common.{segment_eq-is}
use Rattle.walk_faults.specs.Common.{segment_at}
use Rattle.place_text.specs.Common.{Tables, vertices_of_feature, feature_segments, has_vertex, has_edge, numbers_where}
use Rattle.place_text.specs.Common.{is_among, once, once_if, numbers_in, Tells, TellsAll}
use Rattle.place_text.proofs.Numbered.{so_many}
use Rattle.place_text.proofs.Told.{both_told, next_number}

-- ---- one edge

pub segment_there : (a b : Position) (s : Segment) → s ≡ segment a b → (a ≡ b → ⊥) → s ∷ [] ≡ segment_at (a, b)
segment_there a b s e apart = by (position_eq a b) refl
  where
    by : (c : Bool) → position_eq a b ≡ c → s ∷ [] ≡ cond c [] (segment a b ∷ [])
    by true h = absurd (apart (position_eq-true a b h))
    by false h = ap (λ t. t ∷ []) e

-- ---- what each gives, one after another

vertex_among : (p : Position) (feature : List (List (List Position))) → is_among position_cmp (vertices_of_feature feature) p ≡ has_vertex p feature
vertex_among p feature =
    let e : (t : Position) → is_eq (position_cmp t p) ≡ position_eq p t = λ t. sym (ties t p) ∙ position_eq-sym t p in
    λ i. list_any (λ t. e t i) (vertices_of_feature feature)

segment_among : (s : Segment) (feature : List (List (List Position))) → is_among segment_cmp (feature_segments feature) s ≡ has_edge s feature
segment_among s feature =
    let e : (t : Segment) → is_eq (segment_cmp t s) ≡ segment_eq s t = λ t. sym (segment_eq-is t s) in
    λ i. list_any (λ t. e t i) (feature_segments feature)

get_seen : {X Y : Type 0} (v : X → Y) (xs : List X) (i : ℕ) (x : X) → i < length xs → x ≡ get_or xs i x → v x ≡ get_or (map v xs) i (v x)
get_seen v [] i x l e = absurd (omega (arith, l))
get_seen v (y ∷ xs) zero x l e = ap v e
get_seen v (y ∷ xs) (suc i) x l e = get_seen v xs i x (omega (arith, l)) e

-- the numbers of those so far, with that of the next one where it passes
number_step : {X Y : Type 0} (test : Y → Bool) (v : X → Y) (xs : List X) (i : ℕ) (x : X) (b : Bool) (o : Option (List ℕ)) → i < length xs → x ≡ get_or xs i x → b ≡ test (v x)
    → option_map (λ ns. cond b (once i ns) ns) (option_map (λ ns. numbers_where test (map v (take i xs))) o) ≡ option_map (λ ns. numbers_where test (map v (take (i + 1) xs))) o
number_step test v xs i x b None l e t = refl
number_step test v xs i x b (Some ns) l e t =
    let l' : i < length (map v xs) = subst (λ k. i < k) (sym (length-map xs v)) l in
    let few : length (take i (map v xs)) ≤ i = omega (arith, so_many (map v xs) i l') in
    ap Some (ap (λ z. cond b (once i (numbers_where test z)) (numbers_where test z)) (sym (take-map v i xs))
    ∙ next_number test (map v xs) i (v x) b l' (get_seen v xs i x l e) few t ∙ ap (numbers_where test) (take-map v (i + 1) xs))

-- ---- a feature's positions and segments, one after another

module _ {A : Type 0} where
  pub tells_both : (n : ℕ) (ps qs : List Position) (ss ts : List Segment) (a b c : Tables A) → Tells n ps ss a b → Tells n qs ts b c → Tells n (ps ++ qs) (ss ++ ts) a c
  tells_both n ps qs ss ts a b c h k = record {
    vertices = λ p. k.vertices p ∙ ap (option_map (once_if position_cmp n qs p)) (h.vertices p) ∙ both_told position_cmp n ps qs p (numbers_in position_cmp a.vertices p);
    segments = λ s. k.segments s ∙ ap (option_map (once_if segment_cmp n ts s)) (h.segments s) ∙ both_told segment_cmp n ss ts s (numbers_in segment_cmp a.segments s);
  }

  -- ---- a walk: what is told of an edge and of what is left

  pub walk_step : (n : ℕ) (from to first : Position) (rest : List Position) (i : ℕ) (a b c : Tables A) → i < length rest → to ≡ get_or rest i to
      → Tells n (from ∷ []) (segment_at (from, to)) a b → Tells n (to ∷ drop (i + 1) rest) (flat_map segment_at (links (to ∷ drop (i + 1) rest ++ first ∷ []))) b c
      → Tells n (from ∷ drop i rest) (flat_map segment_at (links (from ∷ drop i rest ++ first ∷ []))) a c
  walk_step n from to first rest i a b c l e h k =
      let next : suc i ≡ i + 1 = omega arith in
      let there : drop i rest ≡ to ∷ drop (i + 1) rest = drop-cons rest i to l ∙ ap₂ (λ (z : Position) (m : ℕ). z ∷ drop m rest) (sym e) next in
      subst (λ zs. Tells n (from ∷ zs) (flat_map segment_at (links (from ∷ zs ++ first ∷ []))) a c) (sym there)
      (tells_both n (from ∷ []) (to ∷ drop (i + 1) rest) (segment_at (from, to)) (flat_map segment_at (links (to ∷ drop (i + 1) rest ++ first ∷ []))) a b c h k)

  -- ---- walks and polygons, one after another

  pub level_step : {X Y : Type 0} (n : ℕ) (f : Y → List Position) (g : Y → List Segment) (v : X → Y) (xs : List X) (i : ℕ) (x : X) (a b c : Tables A)
      → i < length xs → x ≡ get_or xs i x
      → Tells n (flat_map f (map v (take i xs))) (flat_map g (map v (take i xs))) a b → Tells n (f (v x)) (g (v x)) b c
      → Tells n (flat_map f (map v (take (i + 1) xs))) (flat_map g (map v (take (i + 1) xs))) a c
  level_step n f g v xs i x a b c l e h k =
      subst (λ ps. Tells n ps (flat_map g (map v (take (i + 1) xs))) a c) (sym (flat_mapped_more f v xs i x l e))
      (subst (λ ss. Tells n (flat_map f (map v (take i xs)) ++ f (v x)) ss a c) (sym (flat_mapped_more g v xs i x l e))
      (tells_both n (flat_map f (map v (take i xs))) (f (v x)) (flat_map g (map v (take i xs))) (g (v x)) a b c h k))

  -- ---- features, one after another

  pub feature_step : {X : Type 0} (v : X → List (List (List Position))) (xs : List X) (i : ℕ) (x : X) (a b c : Tables A) → i < length xs → x ≡ get_or xs i x
      → TellsAll (map v (take i xs)) a b → Tells i (vertices_of_feature (v x)) (feature_segments (v x)) b c → TellsAll (map v (take (i + 1) xs)) a c
  feature_step v xs i x a b c l e h k = record {
    vertices = λ p. k.vertices p ∙ ap (option_map (once_if position_cmp i (vertices_of_feature (v x)) p)) (h.vertices p)
        ∙ number_step (has_vertex p) v xs i x (is_among position_cmp (vertices_of_feature (v x)) p) (numbers_in position_cmp a.vertices p) l e (vertex_among p (v x));
    segments = λ s. k.segments s ∙ ap (option_map (once_if segment_cmp i (feature_segments (v x)) s)) (h.segments s)
        ∙ number_step (has_edge s) v xs i x (is_among segment_cmp (feature_segments (v x)) s) (numbers_in segment_cmp a.segments s) l e (segment_among s (v x));
  }
