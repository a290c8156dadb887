-- Standings that ascend, grouped by segment, are the borders of their polygons.
use Rattle.kit_words.proofs.Common.{◌≡◌, ◌≤◌, ◌<◌, ℕ, zero, suc, true, refl, sym, ap, ap₂, ◌∙◌, subst}
use Rattle.kit_words.proofs.Common.{List, [], ◌∷◌, ◌++◌, map, length, take, drop, get_or, inl, inr, arith}
use Rattle.kit_words.proofs.Common.{flat_map, flat_map-append, list_all, nat_le, nat_tests, false≢true}
use Rattle.kit_words.proofs.Common.{append-nil, append_assoc, map-append, length-take-le, length-drop}
use Rattle.kit_words.proofs.Common.{take-append-drop, get_or-take, nat_cmp, Ordering, Less, Equal, Greater, IsStrictlySortedBy}
use Rattle.kit_words.proofs.Common.{ordering_then, below_more, get_or_default, ◌+◌}
use Rattle.grid_geometry.specs.Common.{Segment, segment_cmp}
use Rattle.ring_machine.specs.Common.{is_ring}
use Rattle.ring_machine.proofs.Common.{In, in-append, in_left, in_right, contains_in, in_contains, any_in, in_any, in-map}
use Rattle.ring_machine.proofs.Common.{in_mapped, in-flat_map, in_flat, same_answer}
use Rattle.layer_sides.specs.Common.{Polygon, Bordering, AreBorders, bounded, is_bounding, is_border, has_number}
use Rattle.layer_sides.specs.declared.standing.Standing.{Standing}
use Rattle.layer_sides.specs.Standing.{stands, standing_from, standing_cmp, standing_eq, is_standing, stands_odd, numbered, AreGrouped}
use Rattle.layer_sides.proofs.Ascending.{not_less, rises_front, rises_back, rises_across, rises_first, rises_rest, rises_push}
use Rattle.layer_sides.proofs.Ascending.{rises_none, rises_mapped}
use Rattle.layer_sides.proofs.Odds.{odd_count}
use Rattle.layer_sides.proofs.Standings.{segment_total, segment_exact, standing_eq-true, standing_eq-refl, by_number, no_greater}
use Rattle.layer_sides.proofs.Numbers.{test_from, has-numbers, numbers-ascend, same_numbers, has-in_list, in_list-has}
use Rattle.layer_sides.proofs.Numbers.{IsNumbered, there, absent, numbered_as, number_of}
use Rattle.layer_sides.proofs.Gathered.{standing_odd}

abbrev segment_at : Bordering → Segment
segment_at b = b.segment

-- ---- the borders of what is grouped

-- borders with one segment are one
alone : (bs : List Bordering) → IsStrictlySortedBy segment_cmp (map segment_at bs) → (a b : Bordering) → In a bs → In b bs
    → a.segment ≡ b.segment → a ≡ b
alone [] h a b i j e = absurd i
alone (c ∷ cs) h a b (inl f) (inl g) e = sym f ∙ g
alone (c ∷ cs) h a b (inl f) (inr j) e =
    let less = rises_first segment_cmp c.segment (map segment_at cs) h b.segment (in-map segment_at b cs j) in
    absurd (not_less segment_cmp segment_total b.segment (subst (λ z. segment_cmp z b.segment ≡ Less) (ap segment_at f ∙ e) less))
alone (c ∷ cs) h a b (inr i) (inl g) e =
    let less = rises_first segment_cmp c.segment (map segment_at cs) h a.segment (in-map segment_at a cs i) in
    absurd (not_less segment_cmp segment_total a.segment (subst (λ z. segment_cmp z a.segment ≡ Less) (ap segment_at g ∙ sym e) less))
alone (c ∷ cs) h a b (inr i) (inr j) e = alone cs (rises_rest segment_cmp c.segment (map segment_at cs) h) a b i j e

-- the numbers of each border ascend
numbered-rise : (bs : List Bordering) → IsStrictlySortedBy standing_cmp (flat_map numbered bs) → (b : Bordering) → In b bs
    → IsStrictlySortedBy standing_cmp (numbered b)
numbered-rise [] h b i = absurd i
numbered-rise (c ∷ cs) h b (inl e) =
    subst (λ z. IsStrictlySortedBy standing_cmp (numbered z)) e (rises_front standing_cmp (numbered c) (flat_map numbered cs) h)
numbered-rise (c ∷ cs) h b (inr i) = numbered-rise cs (rises_back standing_cmp (numbered c) (flat_map numbered cs) h) b i

bounds-rise : (b : Bordering) → IsStrictlySortedBy standing_cmp (numbered b) → IsStrictlySortedBy nat_cmp b.bounds
bounds-rise b h =
    rises_mapped (λ n. stands n b.segment) nat_cmp standing_cmp
    (λ m n k. sym (by_number (stands m b.segment) (stands n b.segment) refl) ∙ k) b.bounds h

pub standing-in : (xs : List Standing) (x : Standing) → is_standing xs x ≡ true → In x xs
standing-in xs x h = let y = any_in (standing_eq x) xs h in subst (λ z. In z xs) (sym (standing_eq-true x y.0 y.2)) y.1

pub in-standing : (xs : List Standing) (x : Standing) → In x xs → is_standing xs x ≡ true
in-standing xs x i = in_any (standing_eq x) x xs i (standing_eq-refl x)

first_of : (ns : List ℕ) → nat_le 1 (length ns) ≡ true → (n : ℕ) × In n ns
first_of [] h = absurd (false≢true h)
first_of (n ∷ ns) h = (n, inl refl)

module _ (polygons : List Polygon) (xs : List Standing) (borders : List Bordering)
    (rings : list_all (list_all is_ring) polygons ≡ true)
    (rising : IsStrictlySortedBy standing_cmp xs)
    (odds : (x : Standing) → is_standing xs x ≡ stands_odd (standing_from 0 polygons) x)
    (g : AreGrouped xs borders) where
  among : (n : ℕ) (s : Segment) → is_standing xs (stands n s) ≡ test_from 0 (λ p. is_bounding p s) polygons n
  among n s =
      odds (stands n s) ∙ odd_count (standing_eq (stands n s)) (standing_from 0 polygons) ∙ standing_odd 0 polygons rings n s

  of_border : (b : Bordering) → In b borders → (n : ℕ) → In n b.bounds → In (stands n b.segment) xs
  of_border b i n j =
      subst (In (stands n b.segment)) g.all
      (in-flat_map numbered b (stands n b.segment) borders i (in-map (λ m. stands m b.segment) n b.bounds j))

  to_border : (x : Standing) → In x xs → (b : Bordering) × In b borders × (b.segment ≡ x.segment) × In x.polygon b.bounds
  to_border x i =
      let k = in_flat numbered x borders (subst (In x) (sym g.all) i) in
      let m = in_mapped (λ n. stands n k.0.segment) x k.0.bounds k.2 in
      (k.0, k.1, ap (λ z. z.segment) m.2, subst (λ z. In z k.0.bounds) (ap (λ z. z.polygon) m.2) m.1)

  number_there : (b : Bordering) → In b borders → (n : ℕ) → has_number n b.bounds ≡ has_number n (bounded polygons b.segment)
  number_there b i n =
      same_answer (has_number n b.bounds) (has_number n (bounded polygons b.segment))
      (λ h. has-numbers 0 (λ p. is_bounding p b.segment) polygons n ∙ sym (among n b.segment)
      ∙ in-standing xs (stands n b.segment) (of_border b i n (has-in_list b.bounds n h)))
      (λ h.
      let k = to_border (stands n b.segment) (standing-in xs (stands n b.segment) (among n b.segment ∙ sym (has-numbers 0 (λ p. is_bounding p b.segment) polygons n) ∙ h)) in
      in_list-has b.bounds n (subst (λ z. In n z.bounds) (alone borders g.ascending k.0 b k.1 i k.2) k.3))

  is_one : (s : Segment) → In s (map segment_at borders) → is_border polygons s ≡ true
  is_one s i =
      let b = in_mapped segment_at s borders i in
      let n = first_of b.0.bounds (g.filled b.0 (in_contains borders b.0 b.1)) in
      let passes : test_from 0 (λ p. is_bounding p s) polygons n.0 ≡ true =
      sym (among n.0 s) ∙ in-standing xs (stands n.0 s) (subst (λ z. In (stands n.0 z) xs) b.2 (of_border b.0 b.1 n.0 n.1)) in
      by n.0 passes (numbered_as 0 polygons n.0)
    where
      by : (n : ℕ) → test_from 0 (λ p. is_bounding p s) polygons n ≡ true → IsNumbered 0 polygons n → is_border polygons s ≡ true
      by n t (there p j h) = in_any (λ q. is_bounding q s) p polygons j (sym (h (λ q. is_bounding q s)) ∙ t)
      by n t (absent h) = absurd (false≢true (sym (h (λ q. is_bounding q s)) ∙ t))

  one_is : (s : Segment) → is_border polygons s ≡ true → In s (map segment_at borders)
  one_is s h =
      let p = any_in (λ q. is_bounding q s) polygons h in
      let n = number_of 0 (λ q. is_bounding q s) polygons p.0 p.1 p.2 in
      let k = to_border (stands n.0 s) (standing-in xs (stands n.0 s) (among n.0 s ∙ n.2)) in
      subst (λ z. In z (map segment_at borders)) k.2 (in-map segment_at k.0 borders k.1)

  pub borders_are : AreBorders polygons borders
  borders_are = record {
    ascending = g.ascending;
    segments = λ s. (
      λ c. is_one s (contains_in (map segment_at borders) s c),
      λ t. in_contains (map segment_at borders) s (one_is s t),
    );
    bounding = λ b c.
        let i = contains_in borders b c in
        same_numbers b.bounds (bounded polygons b.segment)
        (bounds-rise b (numbered-rise borders (subst (IsStrictlySortedBy standing_cmp) (sym g.all) rising) b i))
        (numbers-ascend 0 (λ p. is_bounding p b.segment) polygons) (number_there b i);
  }

-- ---- one group after another

-- borders for those before the rest, all less than it
pub record IsGrouping (odd rest : List Standing) (borders : List Bordering) : Type 0 where
  pub done : flat_map numbered borders ++ rest ≡ odd
  pub ascending : IsStrictlySortedBy segment_cmp (map segment_at borders)
  pub filled : (b : Bordering) → In b borders → nat_le 1 (length b.bounds) ≡ true
  pub before : (b : Bordering) → In b borders → (x : Standing) → In x rest → segment_cmp b.segment x.segment ≡ Less
  pub empty : (b : Bordering) → In b borders → b.right ≡ []

pub grouping-none : (odd : List Standing) → IsGrouping odd odd []
grouping-none odd = record {
  done = refl;
  ascending = rises_none segment_cmp;
  filled = λ b i. absurd i;
  before = λ b i x j. absurd i;
  empty = λ b i. absurd i;
}

pub grouping-all : (odd rest : List Standing) (borders : List Bordering) → length rest ≡ 0 → IsGrouping odd rest borders → AreGrouped odd borders
grouping-all odd [] borders l h = record {
  all = sym (append-nil (flat_map numbered borders)) ∙ h.done;
  ascending = h.ascending;
  filled = λ b c. h.filled b (contains_in borders b c);
}
grouping-all odd (x ∷ rest) borders l h = absurd (omega (arith, l))

-- those of one segment, as a border
abbrev pub border_for : Segment → List Standing → Bordering
border_for s own = record { segment = s; bounds = map (λ (x : Standing). x.polygon) own; right = [] }

renumbered : (s : Segment) (own : List Standing) → ((y : Standing) → In y own → y.segment ≡ s) → numbered (border_for s own) ≡ own
renumbered s [] h = refl
renumbered s (y ∷ ys) h =
    ap₂ (λ (z : Standing) zs. z ∷ zs) (λ i. record { segment = sym (h y (inl refl)) i; polygon = y.polygon }) (renumbered s ys (λ z j. h z (inr j)))

-- what comes after the run has a greater segment
after : (x : Standing) (own more : List Standing) → IsStrictlySortedBy standing_cmp (own ++ more) → In x own
    → ((z : Standing) (zs : List Standing) → more ≡ z ∷ zs → z.segment ≡ x.segment → ⊥)
    → (y : Standing) → In y more → segment_cmp x.segment y.segment ≡ Less
after x own [] h i other y j = absurd j
after x own (z ∷ zs) h i other y j =
    let first : segment_cmp x.segment z.segment ≡ Less =
    no_greater x z (rises_across standing_cmp own (z ∷ zs) h x z i (inl refl)) (λ e. absurd (other z zs refl (sym e))) in
    by first j
  where
    by : segment_cmp x.segment z.segment ≡ Less → In y (z ∷ zs) → segment_cmp x.segment y.segment ≡ Less
    by first (inl e) = subst (λ w. segment_cmp x.segment w.segment ≡ Less) e first
    by first (inr k) =
        let beyond = rises_first standing_cmp z zs (rises_back standing_cmp own (z ∷ zs) h) y k in
        not_before (segment_cmp z.segment y.segment) refl beyond
      where
        not_before : (o : Ordering) → segment_cmp z.segment y.segment ≡ o → ordering_then o (nat_cmp z.polygon y.polygon) ≡ Less → segment_cmp x.segment y.segment ≡ Less
        not_before Less e f = segment_total.trans x.segment z.segment y.segment first e
        not_before Equal e f = subst (λ w. segment_cmp x.segment w ≡ Less) (segment_exact z.segment y.segment e) first
        not_before Greater e f = cc

pub grouping-step : (odd rest own more : List Standing) (borders borders' : List Bordering) (x : Standing) (b : Bordering)
    → IsStrictlySortedBy standing_cmp odd → IsGrouping odd rest borders → own ++ more ≡ rest → In x own
    → ((y : Standing) → In y own → y.segment ≡ x.segment)
    → ((z : Standing) (zs : List Standing) → more ≡ z ∷ zs → z.segment ≡ x.segment → ⊥)
    → b ≡ border_for x.segment own → borders' ≡ borders ++ b ∷ [] → IsGrouping odd more borders'
grouping-step odd rest own more borders borders' x b rising h parts i alike other is new =
    let c = border_for x.segment own in
    let in_rest : In x rest = subst (In x) parts (in_left x own more i) in
    let rest_rises : IsStrictlySortedBy standing_cmp rest =
    rises_back standing_cmp (flat_map numbered borders) rest (subst (IsStrictlySortedBy standing_cmp) (sym h.done) rising) in
    subst (IsGrouping odd more) (sym (new ∙ ap (λ z. borders ++ z ∷ []) is)) (record {
      done =
          ap (λ z. z ++ more) (flat_map-append numbered borders (c ∷ []) ∙ ap (λ z. flat_map numbered borders ++ z) (append-nil (numbered c) ∙ renumbered x.segment own alike))
          ∙ append_assoc (flat_map numbered borders) own more ∙ ap (λ z. flat_map numbered borders ++ z) parts ∙ h.done;
      ascending =
          subst (IsStrictlySortedBy segment_cmp) (sym (map-append segment_at borders (c ∷ [])))
          (rises_push segment_cmp (map segment_at borders) x.segment h.ascending (λ s j.
          let k = in_mapped segment_at s borders j in
          subst (λ z. segment_cmp z x.segment ≡ Less) k.2 (h.before k.0 k.1 x in_rest)));
      filled = λ d j. elim (in-append d borders (c ∷ []) j) [
        | inl k ↦ h.filled d k
        | inr (inl e) ↦ subst (λ z. nat_le 1 (length z.bounds) ≡ true) e (some own x i)
        | inr (inr none) ↦ absurd none
      ];
      before = λ d j y k. elim (in-append d borders (c ∷ []) j) [
        | inl l ↦ h.before d l y (subst (In y) parts (in_right y own more k))
        | inr (inl e) ↦ subst (λ z. segment_cmp z.segment y.segment ≡ Less) e
            (after x own more (subst (IsStrictlySortedBy standing_cmp) (sym parts) rest_rises) i other y k)
        | inr (inr none) ↦ absurd none
      ];
      empty = λ d j. elim (in-append d borders (c ∷ []) j) [
        | inl k ↦ h.empty d k
        | inr (inl e) ↦ sym (ap (λ z. z.right) e)
        | inr (inr none) ↦ absurd none
      ];
    })
  where
    some : (ys : List Standing) (y : Standing) → In y ys → nat_le 1 (length (map (λ (z : Standing). z.polygon) ys)) ≡ true
    some [] y j = absurd j
    some (z ∷ zs) y j = grind (arith, nat_tests)

-- ---- by the length of the run

-- one more of the segment
pub run_more : (rest : List Standing) (i : ℕ) (y : Standing) (s : Segment) → ((k : ℕ) (x : Standing) → k < i → (get_or rest k x).segment ≡ s)
    → i < length rest → y ≡ get_or rest i y → y.segment ≡ s → (k : ℕ) (x : Standing) → k < i + 1 → (get_or rest k x).segment ≡ s
run_more rest i y s h l e same k x m =
    below_more (λ n. (z : Standing) → (get_or rest n z).segment ≡ s) i (λ n b z. h n z b)
    (λ z. sym (ap (λ (w : Standing). w.segment) (e ∙ get_or_default rest i y z l)) ∙ same) k m x

in_run : (rest : List Standing) (n : ℕ) (s : Segment) → n ≤ length rest → ((k : ℕ) (y : Standing) → k < n → (get_or rest k y).segment ≡ s)
    → (y : Standing) → In y (take n rest) → y.segment ≡ s
in_run rest n s l alike y i =
    let k = in_contains (take n rest) y i in
    let low : k.0 < n = omega (arith, k.1, length-take-le n rest l) in
    sym (ap (λ z. z.segment) (sym (get_or-take n rest k.0 y low) ∙ k.2)) ∙ alike k.0 y low

run_first : (rest : List Standing) (n : ℕ) (x : Standing) → 1 ≤ n → 1 ≤ length rest → x ≡ get_or rest 0 x → In x (take n rest)
run_first [] n x l m e = absurd (omega (arith, m))
run_first (y ∷ rest) zero x l m e = absurd (omega (arith, l))
run_first (y ∷ rest) (suc n) x l m e = inl (sym e)

run_other : (rest : List Standing) (n : ℕ) (s : Segment) → ((y : Standing) → n < length rest → (get_or rest n y).segment ≡ s → ⊥)
    → (z : Standing) (zs : List Standing) → drop n rest ≡ z ∷ zs → z.segment ≡ s → ⊥
run_other [] zero s other z zs e f = cc
run_other [] (suc n) s other z zs e f = cc
run_other (y ∷ rest) zero s other z zs e f = other y (omega arith) (ap head e ∙ f)
  where
    head : List Standing → Segment
    head [] = s
    head (w ∷ ws) = w.segment
run_other (y ∷ rest) (suc n) s other z zs e f = run_other rest n s (λ w l g. other w (omega (arith, l)) g) z zs e f

some_first : (rest : List Standing) (n : ℕ) (x : Standing) → 1 ≤ length rest → x ≡ get_or rest 0 x
    → ((y : Standing) → n < length rest → (get_or rest n y).segment ≡ x.segment → ⊥) → 1 ≤ n
some_first rest zero x l e other = absurd (other x (omega (arith, l)) (ap (λ z. z.segment) (sym e)))
some_first rest (suc n) x l e other = omega arith

pub grouping-next : (odd rest own more : List Standing) (borders borders' : List Bordering) (x : Standing) (b : Bordering) (n : ℕ)
    → IsStrictlySortedBy standing_cmp odd → IsGrouping odd rest borders → 1 ≤ length rest → x ≡ get_or rest 0 x → n ≤ length rest
    → ((k : ℕ) (y : Standing) → k < n → (get_or rest k y).segment ≡ x.segment)
    → ((y : Standing) → n < length rest → (get_or rest n y).segment ≡ x.segment → ⊥)
    → own ≡ take n rest → more ≡ drop n rest
    → b ≡ border_for x.segment own → borders' ≡ borders ++ b ∷ [] → IsGrouping odd more borders' × (length more < length rest)
grouping-next odd rest own more borders borders' x b n rising h l e m alike other front back is new =
    let some = some_first rest n x l e other in (
      grouping-step odd rest own more borders borders' x b rising h (ap₂ (λ y z. y ++ z) front back ∙ take-append-drop n rest)
          (subst (In x) (sym front) (run_first rest n x some l e))
          (λ y i. in_run rest n x.segment m alike y (subst (In y) front i))
          (λ z zs f g. run_other rest n x.segment other z zs (sym back ∙ f) g) is new,
      omega (arith, ap length back, length-drop n rest, some, l, m),
    )
