-- What a search of a sorted list finds.
use Rattle.kit_words.proofs.Common.{◌≡◌, ℕ, zero, suc, ◌<◌, Bool, true, false, refl, sym, ap, ap₂, ◌∙◌, List, [], ◌∷◌}
use Rattle.kit_words.proofs.Common.{length, get_or, ◌||◌, inl, inr, arith, Result, Ok, Err, is_ok, IsTotalOrder}
use Rattle.kit_words.proofs.Common.{list_any, IsPermutation, IsSorted, IsBinarySearchResult, IsSearchInRange}
use Rattle.kit_words.proofs.Common.{IsPartitionPoint, Ordering, Less, Greater, is_eq, searchable_from_sorted}
use Rattle.kit_words.proofs.Common.{IsPermutation-sym, or_right, cases_lt}
use Rattle.grid_geometry.specs.Common.{Position, position_eq}
use Rattle.ring_machine.specs.Common.{has}
use Rattle.ring_machine.proofs.Common.{any_in, in_any, same_answer, position_eq-sym, in_permuted}

any_here : {A : Type 0} (test : A → Bool) (xs : List A) (i : ℕ) → i < length xs → ((d : A) → test (get_or xs i d) ≡ true) → list_any test xs ≡ true
any_here test [] i l h = absurd (omega arith)
any_here test (x ∷ xs) zero l h = ap (λ b. b || list_any test xs) (h x)
any_here test (x ∷ xs) (suc i) l h = or_right (test x) (list_any test xs) (any_here test xs i (omega arith) h)

none_there : {A : Type 0} (test : A → Bool) (xs : List A) → ((k : ℕ) (d : A) → k < length xs → test (get_or xs k d) ≡ false) → list_any test xs ≡ false
none_there test [] h = refl
none_there test (x ∷ xs) h = ap₂ (λ a b. a || b) (h 0 x (omega arith)) (none_there test xs (λ k d l. h (suc k) d (omega arith)))

module _ {K : Type 0} (R : K → K → Ordering) (o : IsTotalOrder R) (eq : K → K → Bool) (ties : (a b : K) → eq a b ≡ is_eq (R a b)) (xs : List K) (x : K) (up : IsSorted R xs) where
  between : (i : ℕ) → IsPartitionPoint (λ y. R y x ≡ Less) (λ y. R y x ≡ Greater) xs i → list_any (λ y. eq y x) xs ≡ false
  between i h = none_there (λ y. eq y x) xs (λ k d l. ties (get_or xs k d) x ∙ elim (cases_lt k i) [
    | inl b ↦ ap is_eq (h.0 k d (omega arith) b)
    | inr b ↦ ap is_eq (h.1 k d b l)
  ])

  -- what is found is there, and what is not found is not
  pub search_tells : (r : Result ℕ ℕ) → IsSearchInRange r (length xs) → IsBinarySearchResult (λ y. R y x) xs r → is_ok r ≡ list_any (λ y. eq y x) xs
  search_tells (Ok i) l h = sym (any_here (λ y. eq y x) xs i l (λ d. ties (get_or xs i d) x ∙ ap is_eq (h d)))
  search_tells (Err i) l h = sym (between i (h (searchable_from_sorted o (λ y. y) xs x up)))

-- the order of the elements does not matter
pub any_permuted : {A : Type 0} (test : A → Bool) (xs ys : List A) → IsPermutation xs ys → list_any test ys ≡ list_any test xs
any_permuted test xs ys p = same_answer (list_any test ys) (list_any test xs)
    (λ h. let k = any_in test ys h in in_any test k.0 xs (in_permuted xs ys p k.0 k.1) k.2)
    (λ h. let k = any_in test xs h in in_any test k.0 ys (in_permuted ys xs (IsPermutation-sym xs ys p) k.0 k.1) k.2)

-- a position stands in a ring, whichever way it is compared
pub has_turned : (ring : List Position) (p : Position) → list_any (λ r. position_eq r p) ring ≡ has ring p
has_turned ring p = λ i. list_any (λ r. position_eq-sym r p i) ring
