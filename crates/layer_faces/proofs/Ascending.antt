-- Sides in the order of their labels: those with one label ascend.
use Rattle.kit_words.proofs.Common.{◌≡◌, ℕ, suc, ◌+◌, ◌<◌, ◌≤◌, Bool, false, refl, sym, ap, ◌∙◌, subst, arith, List, ◌∷◌, map, take, drop, length, get_or}
use Rattle.kit_words.proofs.Common.{All, All-cons, IsSorted, IsSortedBy, IsTotalOrder, get_or-drop, get_or-map, get_or-take, is_lt, length-drop, length-map, length-take}
use Rattle.kit_words.proofs.Common.{nat_cmp, nat_cmp_total, on_total, ordering_then, ranks_by, sorted_far, then_total, tied_itself}
use Rattle.std.proofs.lemmas.Map.Keys.{ge_from_not_lt}
use Rattle.std.specs.List.Sorted.{IsNonDecreasing}
use Rattle.layer_faces.specs.declared.order.Labelled.{Labelled}
use Rattle.layer_faces.specs.Order.{HaveOneLabel, labelled_cmp, side_of}

labelled_total : IsTotalOrder labelled_cmp
labelled_total = then_total (on_total (λ (x : Labelled). x.label) nat_cmp_total) (on_total (λ (x : Labelled). x.side) nat_cmp_total)

-- of one label the order is that of the sides
by_side : (a b : Labelled) → a.label ≡ b.label → is_lt (labelled_cmp b a) ≡ false → a.side ≤ b.side
by_side a b same h =
    let first : labelled_cmp b a ≡ nat_cmp b.side a.side =
    ap (λ n. ordering_then (nat_cmp b.label n) (nat_cmp b.side a.side)) same ∙ ap (λ o. ordering_then o (nat_cmp b.side a.side)) (tied_itself nat_cmp_total b.label) in
    ge_from_not_lt b.side a.side (ap is_lt (sym first) ∙ h)

pub sorted_rest : {X : Type 0} (lt : X → X → Bool) (k : ℕ) (xs rest : List X) → rest ≡ drop k xs → IsSortedBy lt xs → IsSortedBy lt rest
sorted_rest lt k xs rest e h = subst (IsSortedBy lt) (sym e) at
  where
    at : IsSortedBy lt (drop k xs)
    at i d l m =
        let long = length-drop k xs in
        let next : k + (i + 1) ≡ k + i + 1 = omega arith in
        rw (get_or-drop k xs (i + 1) d, get_or-drop k xs i d, next) (h (k + i) d (omega arith) (omega (arith, m, long)))

-- the sides of a run that has one label
pub run_ascends : (order run : List Labelled) (k : ℕ) (sides : List ℕ) → sides ≡ map side_of run → run ≡ take k order
    → IsSorted labelled_cmp order → HaveOneLabel (take k order) → IsNonDecreasing sides
run_ascends order run k sides e f up one i j d le l =
    let D : Labelled = record { label = 0; side = d } in
    let taken : sides ≡ map side_of (take k order) = e ∙ ap (map side_of) f in
    let count = ap length taken ∙ length-map (take k order) side_of in
    let long = length-take k order in
    let low : i < length (take k order) = omega (arith, le, l, count) in
    let high : j < length (take k order) = omega (arith, l, count) in
    let at : (n : ℕ) → n < length (take k order) → get_or sides n d ≡ (get_or order n D).side =
    λ n m. ap (λ ns. get_or ns n d) taken ∙ get_or-map side_of (take k order) n D d m ∙ ap side_of (get_or-take k order n D (omega (arith, m, long))) in
    let label : (n : ℕ) → n < length (take k order) → (get_or order n D).label ≡ one.0 =
    λ n m. ap (λ (x : Labelled). x.label) (sym (get_or-take k order n D (omega (arith, m, long)))) ∙ one.1 n D m in
    let far = sorted_far (λ x y. is_lt (labelled_cmp x y)) (ranks_by labelled_total (λ x. x)) order up i j D le (omega (arith, high, long)) in
    let fits = by_side (get_or order i D) (get_or order j D) (label i low ∙ sym (label j high)) far in
    omega (arith, at i low, at j high, fits)

-- those counted from the first on have its label
pub run_same : (order rest : List Labelled) (first : Labelled) (i count : ℕ) → first ∷ rest ≡ order → count ≡ i + 1
    → All (λ next. next.label ≡ first.label) (take i rest) → HaveOneLabel (take count order)
run_same order rest first i count is e h =
    let n : count ≡ suc i = omega (arith, e) in (
      first.label,
      subst (λ xs. All (λ next. next.label ≡ first.label) (take count xs)) is
          (subst (λ m. All (λ next. next.label ≡ first.label) (take m (first ∷ rest))) (sym n)
          (All-cons (λ next. next.label ≡ first.label) first (take i rest) refl h)),
    )
