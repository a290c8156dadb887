-- A list that was sorted and rid of equal neighbours.
use Rattle.kit_words.proofs.Common.{◌≡◌, ℕ, Bool, true, sym, subst, List, [], Contains, arith, dedup, eqb, eqb-true}
use Rattle.kit_words.proofs.Common.{IsPermutation, IsSorted, IsFiltered, DiffersFromLast, eq_by_cmp, Ordering, IsTotalOrder}
use Rattle.kit_words.proofs.Common.{IsStrictlySortedBy-dedup, IsPermutation-sym, dedup_is, nat_cmp_total, nat_tests}
use Rattle.std.specs.Ordering.{nat_cmp}
use Rattle.grid_geometry.specs.Common.{Position, position_cmp, position_eq}
use Rattle.ring_machine.proofs.Common.{contains_in, in_contains, in_permuted, none_new, none_lost, position_eq-true}
use Rattle.ring_machine.proofs.Common.{position_total, ties}
use Rattle.layer_sides.specs.Under.{Ascends}

pub sorted_once : {X : Type 0} (cmp : X → X → Ordering) → IsTotalOrder cmp → (eq : X → X → Bool) → ((a b : X) → eq a b ≡ true → a ≡ b)
    → ((a b : X) → eq a b ≡ eq_by_cmp cmp a b) → (xs sorted once : List X) → IsPermutation xs sorted → IsSorted cmp sorted
    → IsFiltered (DiffersFromLast eq) [] sorted once → Ascends cmp (Contains xs) once
sorted_once cmp total eq same_by alike xs sorted once permutation ascending filtered =
    subst (Ascends cmp (Contains xs)) (sym (dedup_is eq sorted once filtered)) (record {
      ascending = IsStrictlySortedBy-dedup total alike sorted ascending;
      all = λ a. (
        λ c. in_contains xs a (in_permuted xs sorted permutation a (none_new eq same_by sorted a (contains_in (dedup eq sorted) a c))),
        λ c. in_contains (dedup eq sorted) a (none_lost eq same_by sorted a (in_permuted sorted xs (IsPermutation-sym xs sorted permutation) a (contains_in xs a c))),
      );
    })

nat_ties : (a b : ℕ) → eqb a b ≡ eq_by_cmp nat_cmp a b
nat_ties a b = grind (arith, nat_tests)

-- ---- numbers and positions

pub numbers_once : (xs sorted once : List ℕ) → IsPermutation xs sorted → IsSorted nat_cmp sorted
    → IsFiltered (DiffersFromLast eqb) [] sorted once → Ascends nat_cmp (Contains xs) once
numbers_once xs sorted once permutation ascending filtered =
    sorted_once nat_cmp nat_cmp_total eqb eqb-true nat_ties xs sorted once permutation ascending filtered

pub positions_once : (xs sorted once : List Position) → IsPermutation xs sorted → IsSorted position_cmp sorted
    → IsFiltered (DiffersFromLast position_eq) [] sorted once → Ascends position_cmp (Contains xs) once
positions_once xs sorted once permutation ascending filtered =
    sorted_once position_cmp position_total position_eq position_eq-true ties xs sorted once permutation ascending filtered
