-- Ascending lists, each element once: made of sorted ones, and the only lists of their elements.
use Rattle.kit_words.proofs.Common.{◌≡◌, ◌<◌, ℕ, zero, suc, Bool, true, refl, sym, ap₂, ◌∙◌, subst, List, [], ◌∷◌}
use Rattle.kit_words.proofs.Common.{length, take, get_or, inl, inr, Contains, arith, AllByRecursion, dedup}
use Rattle.kit_words.proofs.Common.{IsPermutation, IsSorted, IsStrictlySortedBy, IsFiltered, DiffersFromLast, eq_by_cmp}
use Rattle.kit_words.proofs.Common.{Ordering, Less, Equal, IsTotalOrder, tied_itself, dedup_is}
use Rattle.kit_words.proofs.Common.{IsStrictlySortedBy-dedup, IsPermutation-sym}
use Rattle.ring_machine.proofs.Common.{In, contains_in, in_contains, in_permuted, in_recursion, none_new, none_lost}
use Rattle.ring_machine.proofs.Common.{in_at}
use Rattle.walk_faults.specs.Common.{ListsAll}

module _ {X : Type 0} (cmp : X → X → Ordering) (total : IsTotalOrder cmp) where
  -- nothing is less than itself
  pub not_less : (x : X) → cmp x x ≡ Less → ⊥
  not_less x h = differ (sym h ∙ tied_itself total x)
    where
      differ : Less ≡ Equal → ⊥
      differ e = cc

  not_both : (x y : X) → cmp x y ≡ Less → cmp y x ≡ Less → ⊥
  not_both x y h k = not_less x (total.trans x y x h k)

  first_same : (x y : X) (xs ys : List X) → AllByRecursion (λ z. cmp x z ≡ Less) xs → AllByRecursion (λ z. cmp y z ≡ Less) ys → In x (y ∷ ys) → In y (x ∷ xs) → x ≡ y
  first_same x y xs ys h k (inl e) j = sym e
  first_same x y xs ys h k (inr i) (inl e) = e
  first_same x y xs ys h k (inr i) (inr j) =
      absurd (not_both x y (in_recursion (λ z. cmp x z ≡ Less) xs y h j) (in_recursion (λ z. cmp y z ≡ Less) ys x k i))

  rest_in : (x y : X) (xs ys : List X) → x ≡ y → AllByRecursion (λ z. cmp x z ≡ Less) xs → (a : X) → In a xs → In a (y ∷ ys) → In a ys
  rest_in x y xs ys same h a i (inl e) =
      absurd (not_less a (subst (λ z. cmp z a ≡ Less) (same ∙ e) (in_recursion (λ z. cmp x z ≡ Less) xs a h i)))
  rest_in x y xs ys same h a i (inr j) = j

  -- ascending lists of the same elements are one
  pub same_ascending : (xs ys : List X) → IsStrictlySortedBy cmp xs → IsStrictlySortedBy cmp ys
      → ((a : X) → In a xs → In a ys) → ((a : X) → In a ys → In a xs) → xs ≡ ys
  unfolding IsStrictlySortedBy
  same_ascending [] [] h k f g = refl
  same_ascending [] (y ∷ ys) h k f g = absurd (g y (inl refl))
  same_ascending (x ∷ xs) [] h k f g = absurd (f x (inl refl))
  same_ascending (x ∷ xs) (y ∷ ys) h k f g =
      let same = first_same x y xs ys h.0 k.0 (f x (inl refl)) (g y (inl refl)) in
      ap₂ (λ z zs. z ∷ zs) same
      (same_ascending xs ys h.1 k.1 (λ a i. rest_in x y xs ys same h.0 a i (f a (inr i))) (λ a i. rest_in y x ys xs (sym same) k.0 a i (g a (inr i))))

  -- the elements before one are less
  pub before_it : (xs : List X) (i : ℕ) (x : X) → IsStrictlySortedBy cmp xs → i < length xs → x ≡ get_or xs i x
      → (a : X) → In a (take i xs) → cmp a x ≡ Less
  unfolding IsStrictlySortedBy
  before_it xs zero x h l e a j = absurd j
  before_it [] (suc i) x h l e a j = absurd j
  before_it (y ∷ xs) (suc i) x h l e a (inl f) =
      let there : In x xs = subst (λ z. In z xs) (sym e) (in_at xs i x (omega arith)) in
      subst (λ z. cmp z x ≡ Less) f (in_recursion (λ z. cmp y z ≡ Less) xs x h.0 there)
  before_it (y ∷ xs) (suc i) x h l e a (inr j) = before_it xs i x h.1 (omega arith) e a j

  -- a list that was sorted and rid of equal neighbours
  pub sorted_once : (eq : X → X → Bool) → ((a b : X) → eq a b ≡ true → a ≡ b) → ((a b : X) → eq a b ≡ eq_by_cmp cmp a b)
      → (xs sorted once : List X) → IsPermutation xs sorted → IsSorted cmp sorted
      → IsFiltered (DiffersFromLast eq) [] sorted once → ListsAll cmp (Contains xs) once
  sorted_once eq same_by ties xs sorted once permutation ascending filtered =
      subst (ListsAll cmp (Contains xs)) (sym (dedup_is eq sorted once filtered)) (record {
        ascending = IsStrictlySortedBy-dedup total ties sorted ascending;
        all = λ a. (
          λ c. in_contains xs a (in_permuted xs sorted permutation a (none_new eq same_by sorted a (contains_in (dedup eq sorted) a c))),
          λ c. in_contains (dedup eq sorted) a (none_lost eq same_by sorted a (in_permuted sorted xs (IsPermutation-sym xs sorted permutation) a (contains_in xs a c))),
        );
      })
