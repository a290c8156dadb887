-- Positions that stay all when equal neighbours of the sorted ones are left out are distinct.
use Rattle.kit_words.proofs.Common.{◌≡◌, suc, ◌≤◌, true, false, List, [], ◌∷◌, length, refl, sym, ap, ap₂, ◌∙◌, subst}
use Rattle.kit_words.proofs.Common.{arith, not, ◌&&◌, ◌||◌, None, AllByRecursion, IsDistinct, dedup, dedup_from}
use Rattle.kit_words.proofs.Common.{IsPermutation, IsSorted, IsFiltered, DiffersFromLast, eq_by_cmp, IsTotalOrder}
use Rattle.kit_words.proofs.Common.{int_cmp_total, on_total, then_total, false≢true, dedup_is, IsStrictlySortedBy-dedup}
use Rattle.kit_words.proofs.Common.{IsPermutation-sym}
use Rattle.std.proofs.lemmas.Map.Keys.{IsDistinct-from_sorted, IsDistinct-IsPermutation, IsDistinct-head, IsDistinct-tail}
use Rattle.grid_geometry.specs.Common.{Position, position_cmp, position_eq}
use Rattle.ring_machine.specs.Common.{has, is_distinct}
use Rattle.ring_machine.proofs.Common.{position_eq-sym, ties}
use Rattle.topo_reader.specs.Common.{first_repeat}
use Rattle.topo_reader.proofs.Repeats.{no_repeat}

position_total : IsTotalOrder position_cmp
position_total = then_total (on_total (λ (p : Position). p.x) int_cmp_total) (on_total (λ (p : Position). p.y) int_cmp_total)

flips : (p q : Position) → eq_by_cmp position_cmp p q ≡ eq_by_cmp position_cmp q p
flips p q = sym (ties p q) ∙ position_eq-sym p q ∙ ties q p

-- ---- as many as before are the same

at_most : (p : Position) (ps : List Position) → length (dedup_from position_eq p ps) ≤ suc (length ps)
at_most p [] = omega arith
at_most p (q ∷ ps) = grind (arith, at_most p ps, at_most q ps)

all_from : (p : Position) (ps : List Position) → length (dedup_from position_eq p ps) ≡ suc (length ps) → dedup_from position_eq p ps ≡ p ∷ ps
all_from p [] e = refl
all_from p (q ∷ ps) e = grind (arith, all_from q ps, at_most p ps)

all_stay : (ps : List Position) → length (dedup position_eq ps) ≡ length ps → dedup position_eq ps ≡ ps
all_stay [] e = refl
all_stay (p ∷ ps) e = all_from p ps e

-- ---- distinct, by std's word and by the ring's

apart : (p : Position) (ps : List Position) → AllByRecursion (λ q. eq_by_cmp position_cmp p q ≡ false) ps → has ps p ≡ false
apart p [] h = refl
apart p (q ∷ ps) h = ap₂ (λ a b. a || b) (ties p q ∙ h.0) (apart p ps h.1)

distinct : (ps : List Position) → IsDistinct (eq_by_cmp position_cmp) ps → is_distinct ps ≡ true
distinct [] h = refl
distinct (p ∷ ps) h = ap₂ (λ a b. not a && b) (apart p ps (IsDistinct-head (eq_by_cmp position_cmp) p ps h)) (distinct ps (IsDistinct-tail (eq_by_cmp position_cmp) p ps h))

pub none_twice : (ring sorted once : List Position) → IsPermutation ring sorted → IsSorted position_cmp sorted → IsFiltered (DiffersFromLast position_eq) [] sorted once → length sorted ≡ length ring → length once ≡ length ring → first_repeat [] ring ≡ None
none_twice ring sorted once permutation ascending filtered same all =
    let is : once ≡ dedup position_eq sorted = dedup_is position_eq sorted once filtered in
    let stay : dedup position_eq sorted ≡ sorted = all_stay sorted (ap length (sym is) ∙ all ∙ sym same) in
    let apart : IsDistinct (eq_by_cmp position_cmp) sorted = subst (IsDistinct (eq_by_cmp position_cmp)) stay (IsDistinct-from_sorted position_cmp (dedup position_eq sorted) (IsStrictlySortedBy-dedup position_total ties sorted ascending)) in
    no_repeat [] ring (distinct ring (IsDistinct-IsPermutation (eq_by_cmp position_cmp) flips sorted ring (IsPermutation-sym ring sorted permutation) apart), λ q is. absurd (false≢true is))
