-- Sums over lists that grow by one at each element that a test finds.
use Rattle.kit_words.proofs.Common.{◌≡◌, ◌+◌, ℕ, Bool, true, false, refl, sym, ap, ◌∙◌, cond, List, [], ◌∷◌, map}
use Rattle.kit_words.proofs.Common.{length, arith, inl, inr, filter, sum_by, sum_by-cons}
use Rattle.ring_machine.proofs.Common.{In}
use Rattle.arc_tables.specs.Common.{one}

pub sum_by-map : {A B : Type 0} (f : B → ℕ) (g : A → B) (xs : List A)
    → sum_by f (map g xs) ≡ sum_by (λ x. f (g x)) xs
sum_by-map f g [] = refl
sum_by-map f g (x ∷ xs) = sum_by-cons f (g x) (map g xs) ∙ ap (λ z. f (g x) + z) (sum_by-map f g xs) ∙ sym (sum_by-cons (λ y. f (g y)) x xs)

-- one more at each element that passes the test
pub sum_more : {A : Type 0} (f g : A → ℕ) (test : A → Bool) (xs : List A)
    → ((x : A) → In x xs → f x ≡ g x + one (test x))
    → sum_by f xs ≡ sum_by g xs + length (filter test xs)
sum_more f g test [] h = omega arith
sum_more f g test (x ∷ xs) h =
    omega (arith, sum_by-cons f x xs, sum_by-cons g x xs, h x (inl refl), by (test x), sum_more f g test xs (λ y i. h y (inr i)))
  where
    by : (t : Bool) → length (cond t (x ∷ filter test xs) (filter test xs)) ≡ one t + length (filter test xs)
    by true = omega arith
    by false = omega arith

pub filter-mapped : {A B : Type 0} (g : A → B) (test : B → Bool) (other : A → Bool) (xs : List A)
    → ((x : A) → In x xs → test (g x) ≡ other x)
    → length (filter test (map g xs)) ≡ length (filter other xs)
filter-mapped g test other [] h = refl
filter-mapped g test other (x ∷ xs) h =
    ap (λ t. length (cond t (g x ∷ filter test (map g xs)) (filter test (map g xs)))) (h x (inl refl))
    ∙ by (other x) (filter-mapped g test other xs (λ y i. h y (inr i)))
  where
    by : (t : Bool) → length (filter test (map g xs)) ≡ length (filter other xs)
        → length (cond t (g x ∷ filter test (map g xs)) (filter test (map g xs)))
        ≡ length (cond t (x ∷ filter other xs) (filter other xs))
    by true e = omega (arith, e)
    by false e = e
