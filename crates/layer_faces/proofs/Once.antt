-- Numbers that were sorted and rid of equal neighbours.
use Rattle.kit_words.proofs.Common.{ℕ, sym, subst, List, [], IsPermutation, IsFiltered, DiffersFromLast, dedup}
use Rattle.kit_words.proofs.Common.{nat_cmp, nat_eq, nat_cmp_total, unsigned_tied, dedup_is, IsStrictlySortedBy-dedup, IsPermutation-sym}
use Rattle.std.proofs.lemmas.Bool.{eqb-true}
use Rattle.std.specs.List.Sorted as sorting
use Rattle.ring_machine.proofs.Common.{contains_in, in_contains, in_permuted, none_new, none_lost}
use Rattle.layer_faces.specs.Holders.{IsOnce}

pub sorted_once : (ns sorted once : List ℕ) → IsPermutation ns sorted → sorting.IsSorted nat_cmp sorted
    → IsFiltered (DiffersFromLast nat_eq) [] sorted once → IsOnce ns once
sorted_once ns sorted once permutation ascending filtered =
    subst (IsOnce ns) (sym (dedup_is nat_eq sorted once filtered)) (record {
      ascending = IsStrictlySortedBy-dedup nat_cmp_total (λ a b. sym (unsigned_tied a b)) sorted ascending;
      same = λ a. (
        λ c. in_contains ns a (in_permuted ns sorted permutation a (none_new nat_eq eqb-true sorted a (contains_in (dedup nat_eq sorted) a c))),
        λ c. in_contains (dedup nat_eq sorted) a (none_lost nat_eq eqb-true sorted a (in_permuted sorted ns (IsPermutation-sym ns sorted permutation) a (contains_in ns a c))),
      );
    })
