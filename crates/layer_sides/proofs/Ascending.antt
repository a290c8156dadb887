-- Ascending lists, each element once: the only lists of their elements, one after another, and from behind.
use Rattle.kit_words.proofs.Common.{◌≡◌, refl, sym, ap, ap₂, ◌∙◌, subst, List, [], ◌∷◌}
use Rattle.kit_words.proofs.Common.{◌++◌, map, inl, inr, ◌⊎◌, AllByRecursion, IsStrictlySortedBy, Ordering, Less, Equal}
use Rattle.kit_words.proofs.Common.{IsTotalOrder, tied_itself}
use Rattle.ring_machine.proofs.Common.{In, in_right, in_recursion}

module _ {X : Type 0} (cmp : X → X → Ordering) where
  all_front : (P : X → Type 0) (xs ys : List X) → AllByRecursion P (xs ++ ys) → AllByRecursion P xs
  all_front P [] ys h = tt
  all_front P (x ∷ xs) ys h = (h.0, all_front P xs ys h.1)

  all_last : (P : X → Type 0) (xs : List X) (y : X) → AllByRecursion P (xs ++ y ∷ []) → P y
  all_last P [] y h = h.0
  all_last P (x ∷ xs) y h = all_last P xs y h.1

  all_push : (P : X → Type 0) (xs : List X) (y : X) → AllByRecursion P xs → P y → AllByRecursion P (xs ++ y ∷ [])
  all_push P [] y h k = (k, tt)
  all_push P (x ∷ xs) y h k = (h.0, all_push P xs y h.1 k)

  pub rises_front : (xs ys : List X) → IsStrictlySortedBy cmp (xs ++ ys) → IsStrictlySortedBy cmp xs
  unfolding IsStrictlySortedBy
  rises_front [] ys h = tt
  rises_front (x ∷ xs) ys h = (all_front (λ z. cmp x z ≡ Less) xs ys h.0, rises_front xs ys h.1)

  pub rises_back : (xs ys : List X) → IsStrictlySortedBy cmp (xs ++ ys) → IsStrictlySortedBy cmp ys
  unfolding IsStrictlySortedBy
  rises_back [] ys h = h
  rises_back (x ∷ xs) ys h = rises_back xs ys h.1

  -- each of the first ones is less than each of those after them
  pub rises_across : (xs ys : List X) → IsStrictlySortedBy cmp (xs ++ ys) → (a b : X) → In a xs → In b ys → cmp a b ≡ Less
  unfolding IsStrictlySortedBy
  rises_across [] ys h a b i j = absurd i
  rises_across (x ∷ xs) ys h a b (inl e) j =
      subst (λ z. cmp z b ≡ Less) e (in_recursion (λ z. cmp x z ≡ Less) (xs ++ ys) b h.0 (in_right b xs ys j))
  rises_across (x ∷ xs) ys h a b (inr i) j = rises_across xs ys h.1 a b i j

  pub rises_last : (xs : List X) (y : X) → IsStrictlySortedBy cmp (xs ++ y ∷ []) → (a : X) → In a xs → cmp a y ≡ Less
  unfolding IsStrictlySortedBy
  rises_last [] y h a i = absurd i
  rises_last (x ∷ xs) y h a (inl e) = subst (λ z. cmp z y ≡ Less) e (all_last (λ z. cmp x z ≡ Less) xs y h.0)
  rises_last (x ∷ xs) y h a (inr i) = rises_last xs y h.1 a i

  pub rises_push : (xs : List X) (y : X) → IsStrictlySortedBy cmp xs → ((a : X) → In a xs → cmp a y ≡ Less) → IsStrictlySortedBy cmp (xs ++ y ∷ [])
  unfolding IsStrictlySortedBy
  rises_push [] y h k = (tt, tt)
  rises_push (x ∷ xs) y h k = (all_push (λ z. cmp x z ≡ Less) xs y h.0 (k x (inl refl)), rises_push xs y h.1 (λ a i. k a (inr i)))

  -- the first is less than each of the others
  pub rises_first : (x : X) (xs : List X) → IsStrictlySortedBy cmp (x ∷ xs) → (a : X) → In a xs → cmp x a ≡ Less
  unfolding IsStrictlySortedBy
  rises_first x xs h a i = in_recursion (λ z. cmp x z ≡ Less) xs a h.0 i

  pub rises_rest : (x : X) (xs : List X) → IsStrictlySortedBy cmp (x ∷ xs) → IsStrictlySortedBy cmp xs
  unfolding IsStrictlySortedBy
  rises_rest x xs h = h.1

  pub rises_none : IsStrictlySortedBy cmp []
  unfolding IsStrictlySortedBy
  rises_none = tt

-- lists of which one is made of the other, in one order
rises_all : {X Y : Type 0} (f : X → Y) (P : X → Type 0) (Q : Y → Type 0) → ((x : X) → Q (f x) → P x) → (xs : List X) → AllByRecursion Q (map f xs) → AllByRecursion P xs
rises_all f P Q h [] k = tt
rises_all f P Q h (x ∷ xs) k = (h x k.0, rises_all f P Q h xs k.1)

pub rises_mapped : {X Y : Type 0} (f : X → Y) (cmp : X → X → Ordering) (cmp' : Y → Y → Ordering)
    → ((a b : X) → cmp' (f a) (f b) ≡ Less → cmp a b ≡ Less) → (xs : List X) → IsStrictlySortedBy cmp' (map f xs) → IsStrictlySortedBy cmp xs
unfolding IsStrictlySortedBy
rises_mapped f cmp cmp' h [] k = tt
rises_mapped f cmp cmp' h (x ∷ xs) k = (rises_all f (λ z. cmp x z ≡ Less) (λ z. cmp' (f x) z ≡ Less) (h x) xs k.0, rises_mapped f cmp cmp' h xs k.1)

-- a list is empty, or ends in an element
pub from_behind : {X : Type 0} (xs : List X) → (xs ≡ []) ⊎ ((front : List X) × (x : X) × (xs ≡ front ++ x ∷ []))
from_behind [] = inl refl
from_behind (x ∷ xs) = elim (from_behind xs) [
  | inl e ↦ inr ([], x, ap (λ z. x ∷ z) e)
  | inr k ↦ inr (x ∷ k.0, k.1, ap (λ z. x ∷ z) k.2)
]

module _ {X : Type 0} (cmp : X → X → Ordering) (total : IsTotalOrder cmp) where
  -- nothing is less than itself
  pub not_less : (x : X) → cmp x x ≡ Less → ⊥
  not_less x h = differ (sym h ∙ tied_itself total x)
    where
      differ : Less ≡ Equal → ⊥
      differ e = cc

  not_both : (x y : X) → cmp x y ≡ Less → cmp y x ≡ Less → ⊥
  not_both x y h k = not_less x (total.trans x y x h k)

  first_same : (x y : X) (xs ys : List X) → AllByRecursion (λ z. cmp x z ≡ Less) xs → AllByRecursion (λ z. cmp y z ≡ Less) ys → In x (y ∷ ys) → In y (x ∷ xs) → x ≡ y
  first_same x y xs ys h k (inl e) j = sym e
  first_same x y xs ys h k (inr i) (inl e) = e
  first_same x y xs ys h k (inr i) (inr j) =
      absurd (not_both x y (in_recursion (λ z. cmp x z ≡ Less) xs y h j) (in_recursion (λ z. cmp y z ≡ Less) ys x k i))

  rest_in : (x y : X) (xs ys : List X) → x ≡ y → AllByRecursion (λ z. cmp x z ≡ Less) xs → (a : X) → In a xs → In a (y ∷ ys) → In a ys
  rest_in x y xs ys same h a i (inl e) =
      absurd (not_less a (subst (λ z. cmp z a ≡ Less) (same ∙ e) (in_recursion (λ z. cmp x z ≡ Less) xs a h i)))
  rest_in x y xs ys same h a i (inr j) = j

  -- ascending lists of the same elements are one
  pub same_ascending : (xs ys : List X) → IsStrictlySortedBy cmp xs → IsStrictlySortedBy cmp ys
      → ((a : X) → In a xs → In a ys) → ((a : X) → In a ys → In a xs) → xs ≡ ys
  unfolding IsStrictlySortedBy
  same_ascending [] [] h k f g = refl
  same_ascending [] (y ∷ ys) h k f g = absurd (g y (inl refl))
  same_ascending (x ∷ xs) [] h k f g = absurd (f x (inl refl))
  same_ascending (x ∷ xs) (y ∷ ys) h k f g =
      let same = first_same x y xs ys h.0 k.0 (f x (inl refl)) (g y (inl refl)) in
      ap₂ (λ z zs. z ∷ zs) same
      (same_ascending xs ys h.1 k.1 (λ a i. rest_in x y xs ys same h.0 a i (f a (inr i))) (λ a i. rest_in y x ys xs (sym same) k.0 a i (g a (inr i))))
