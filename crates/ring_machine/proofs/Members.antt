-- What is among the elements of a list, and what a test of a whole list answers.
use Rattle.kit_words.proofs.Common.{◌≡◌, ◌<◌, ℕ, zero, suc, Bool, true, refl, ap, ap₂, ◌∙◌, List, [], ◌∷◌, ◌++◌, map}
use Rattle.kit_words.proofs.Common.{length, ◌||◌, inl, inr, arith, Option, Some, None, is_some, Contains, or_right}
use Rattle.kit_words.proofs.Common.{slice_index_or, option_map, list_any, flat_map, false≢true, or_cases}
use Rattle.ring_machine.proofs.First.{In, in-append, in_left, in_right}

-- ---- by index

in_at : {A : Type 0} (xs : List A) (x : A) (i : ℕ) → i < length xs → slice_index_or xs i x ≡ x
    → In x xs
in_at [] x i l e = absurd (omega arith)
in_at (y ∷ ys) x zero l e = inl e
in_at (y ∷ ys) x (suc i) l e = inr (in_at ys x i (omega arith) e)

pub contains_in : {A : Type 0} (xs : List A) (x : A) → Contains xs x → In x xs
contains_in xs x h = in_at xs x h.0 h.1 h.2

pub in_contains : {A : Type 0} (xs : List A) (x : A) → In x xs → Contains xs x
in_contains [] x h = absurd h
in_contains (y ∷ ys) x (inl e) = (0, omega arith, e)
in_contains (y ∷ ys) x (inr h) = let k = in_contains ys x h in (suc k.0, omega (arith, k.1), k.2)

-- ---- of lists that were made from others

pub in_swap : {A : Type 0} (x : A) (xs ys : List A) → In x (xs ++ ys) → In x (ys ++ xs)
in_swap x xs ys h = elim (in-append x xs ys h) [
  | inl i ↦ in_right x ys xs i
  | inr i ↦ in_left x ys xs i
]

-- what a mapped element comes from
pub in_mapped : {A B : Type 0} (f : A → B) (b : B) (xs : List A) → In b (map f xs)
    → (a : A) × In a xs × (f a ≡ b)
in_mapped f b [] h = absurd h
in_mapped f b (x ∷ xs) (inl e) = (x, inl refl, e)
in_mapped f b (x ∷ xs) (inr h) = let k = in_mapped f b xs h in (k.0, inr k.1, k.2)

-- whose part an element is
pub in_flat : {A B : Type 0} (f : A → List B) (b : B) (xs : List A) → In b (flat_map f xs)
    → (a : A) × In a xs × In b (f a)
in_flat f b [] h = absurd h
in_flat f b (x ∷ xs) h = elim (in-append b (f x) (flat_map f xs) h) [
  | inl i ↦ (x, inl refl, i)
  | inr i ↦ let k = in_flat f b xs i in (k.0, inr k.1, k.2)
]

-- ---- tests of a whole list

pub any_in : {A : Type 0} (test : A → Bool) (xs : List A) → list_any test xs ≡ true
    → (a : A) × In a xs × (test a ≡ true)
any_in test [] h = absurd (false≢true h)
any_in test (x ∷ xs) h = elim (or_cases (test x) (list_any test xs) h) [
  | inl t ↦ (x, inl refl, t)
  | inr t ↦ let k = any_in test xs t in (k.0, inr k.1, k.2)
]

pub in_any : {A : Type 0} (test : A → Bool) (a : A) (xs : List A) → In a xs → test a ≡ true
    → list_any test xs ≡ true
in_any test a [] h t = absurd h
in_any test a (x ∷ xs) (inl e) t = ap (λ b. b || list_any test xs) (ap test e ∙ t)
in_any test a (x ∷ xs) (inr h) t = or_right (test x) (list_any test xs) (in_any test a xs h t)

-- tests that agree at each element
pub any_alike : {A : Type 0} (f g : A → Bool) → ((a : A) → f a ≡ g a) → (xs : List A)
    → list_any f xs ≡ list_any g xs
any_alike f g h [] = refl
any_alike f g h (x ∷ xs) = ap₂ (λ a b. a || b) (h x) (any_alike f g h xs)

-- two answers that follow from each other
pub same_answer : (a b : Bool) → (a ≡ true → b ≡ true) → (b ≡ true → a ≡ true) → a ≡ b
same_answer a b f g = grind arith

-- ---- what is there

pub there : {A : Type 0} (o : Option A) → is_some o ≡ true → (a : A) × (o ≡ Some a)
there None h = absurd (false≢true h)
there (Some a) h = (a, refl)

pub is_some-mapped : {A B : Type 0} (f : A → B) (o : Option A) → is_some (option_map f o) ≡ is_some o
is_some-mapped f None = refl
is_some-mapped f (Some x) = refl

pub mapped_there : {A B : Type 0} (f : A → B) (o : Option A) (y : B) → option_map f o ≡ Some y
    → (x : A) × (o ≡ Some x) × (f x ≡ y)
mapped_there f None y e = absurd cc
mapped_there f (Some x) y e = (x, refl, cc)

pub map_there : {A B : Type 0} (f g : A → B) (xs : List A) → ((x : A) → In x xs → f x ≡ g x) → map f xs ≡ map g xs
map_there f g [] h = refl
map_there f g (x ∷ xs) h = ap₂ (λ a b. a ∷ b) (h x (inl refl)) (map_there f g xs (λ y i. h y (inr i)))

pub any_there : {A : Type 0} (f g : A → Bool) (xs : List A) → ((x : A) → In x xs → f x ≡ g x) → list_any f xs ≡ list_any g xs
any_there f g [] h = refl
any_there f g (x ∷ xs) h = ap₂ (λ a b. a || b) (h x (inl refl)) (any_there f g xs (λ y i. h y (inr i)))
