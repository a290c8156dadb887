-- Of sorted positions equal ones are neighbours.
use Rattle.kit_words.proofs.Common.{◌≡◌, ◌≤◌, ℕ, Bool, true, false, refl, sym, ap, ◌∙◌, cond, List, [], ◌∷◌, length}
use Rattle.kit_words.proofs.Common.{drop, zip, inl, nat_le, nat_tests, ◌&&◌, ◌||◌, arith, not, list_any, IsPermutation}
use Rattle.kit_words.proofs.Common.{IsSorted, false≢true, sum_by-IsPermutation, by_bool}
use Rattle.grid_geometry.specs.Common.{Position, position_cmp, position_eq, position_lt, Edge, links}
use Rattle.ring_machine.specs.Common.{has, is_distinct}
use Rattle.topo_reader.specs.Common.{is_simple}
use Rattle.ring_machine.proofs.Common.{same_answer, has-in, position_eq-refl, position_lt-total}
use Rattle.walk_faults.proofs.Neighbours.{times, none_less, sorted_rest}
use Rattle.walk_faults.proofs.Opening.{distinct_once, distinct_if}

-- both ends of an edge are one
abbrev pub is_still : Edge → Bool
is_still e = position_eq e.0 e.1

-- of sorted positions only the next one can be equal to one
not_further : (a b : Position) (ps : List Position) → IsSorted position_cmp (a ∷ b ∷ ps) → position_eq a b ≡ false → has ps a ≡ false
not_further a b ps up e = by_bool (has ps a)
    (λ h.
    let after : position_lt b a ≡ false = none_less a (b ∷ ps) up b (inl refl) in
    let before : position_lt a b ≡ false = none_less b ps (sorted_rest a (b ∷ ps) up) a (has-in a ps h) in
    absurd (false≢true (sym e ∙ ap (position_eq a) (sym (position_lt-total a b before after)) ∙ position_eq-refl a)))
    (λ h. h)

neighbours_of_sorted : (ps : List Position) → IsSorted position_cmp ps → not (list_any is_still (links ps)) ≡ is_distinct ps
neighbours_of_sorted [] up = refl
neighbours_of_sorted (a ∷ []) up = refl
neighbours_of_sorted (a ∷ b ∷ ps) up = by (position_eq a b) refl (has ps a) (not_further a b ps up)
    (neighbours_of_sorted (b ∷ ps) (sorted_rest a (b ∷ ps) up))
  where
    by : (t : Bool) → position_eq a b ≡ t → (u : Bool) → (position_eq a b ≡ false → u ≡ false) → not (list_any is_still (links (b ∷ ps))) ≡ is_distinct (b ∷ ps)
        → not (t || list_any is_still (links (b ∷ ps))) ≡ (not (t || u) && is_distinct (b ∷ ps))
    by true e u f h = refl
    by false e true f h = absurd (false≢true (sym (f e)))
    by false e false f h = h

-- equal neighbours tell that some position stands twice
neighbours_tell : (walk sorted : List Position) → IsPermutation walk sorted → IsSorted position_cmp sorted
    → not (list_any is_still (links sorted)) ≡ is_distinct walk
neighbours_tell walk sorted p up = neighbours_of_sorted sorted up ∙ same_answer (is_distinct sorted) (is_distinct walk)
    (λ d. distinct_if walk (λ q h. distinct_once sorted d q (omega (arith, h, as_often q))))
    (λ d. distinct_if sorted (λ q h. distinct_once walk d q (omega (arith, h, as_often q))))
  where
    as_often : (q : Position) → times q sorted ≡ times q walk
    as_often q = sum_by-IsPermutation (λ r. cond {A = ℕ} (position_eq q r) 1 0) walk sorted p

-- neighbours stand in the list and in the same one without its first element
neighbours : (ps : List Position) → zip ps (drop 1 ps) ≡ links ps
neighbours [] = refl
neighbours (a ∷ []) = refl
neighbours (a ∷ b ∷ ps) = ap (λ z. (a, b) ∷ z) (neighbours (b ∷ ps))

long : (n : ℕ) → 3 ≤ n → nat_le 3 n ≡ true
long n l = grind (arith, nat_tests)

-- at least three positions of which no neighbours are equal, once they are sorted, are a ring
pub simple_if : (walk sorted : List Position) (b : Bool) → 3 ≤ length walk → IsPermutation walk sorted → IsSorted position_cmp sorted
    → b ≡ list_any is_still (zip sorted (drop 1 sorted)) → not b ≡ is_simple walk
simple_if walk sorted b l p up e =
    ap not (e ∙ ap (list_any is_still) (neighbours sorted)) ∙ neighbours_tell walk sorted p up
    ∙ sym (ap (λ t. t && is_distinct walk) (long (length walk) l))
