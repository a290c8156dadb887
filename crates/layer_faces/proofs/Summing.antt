-- Sums over the prefix of a list, an element at a time.
use Rattle.kit_words.proofs.Common.{◌≡◌, ℕ, zero, suc, ◌+◌, ◌≤◌, ◌<◌, ap, ◌∙◌, List, [], ◌∷◌, map, take, get_or}
use Rattle.kit_words.proofs.Common.{length, arith, fold, sum_by-cons, sum_by_push, fold_push, mapped_more}
use Rattle.std.specs.Prelude.{sum_by}

pub sum_more : {A B : Type 0} (f : B → ℕ) (of : A → B) (xs : List A) (i : ℕ) (x : A) → i < length xs → x ≡ get_or xs i x
    → sum_by f (map of (take (i + 1) xs)) ≡ sum_by f (map of (take i xs)) + f (of x)
sum_more f of xs i x l e = ap (sum_by f) (mapped_more of xs i x l e) ∙ sum_by_push f (map of (take i xs)) (of x)

pub fold_more : {A B C : Type 0} (f : C → B → C) (z : C) (of : A → B) (xs : List A) (i : ℕ) (x : A) → i < length xs → x ≡ get_or xs i x
    → fold f z (map of (take (i + 1) xs)) ≡ f (fold f z (map of (take i xs))) (of x)
fold_more f z of xs i x l e = ap (fold f z) (mapped_more of xs i x l e) ∙ fold_push f z (map of (take i xs)) (of x)

-- a part of a sum
pub sum_front : {A B : Type 0} (f : B → ℕ) (of : A → B) (xs : List A) (i : ℕ) → sum_by f (map of (take i xs)) ≤ sum_by f (map of xs)
sum_front f of [] zero = omega arith
sum_front f of [] (suc i) = omega arith
sum_front f of (x ∷ xs) zero = omega arith
sum_front f of (x ∷ xs) (suc i) = simp sum_by-cons (omega (arith, sum_front f of xs i))

-- one of a sum
pub sum_at : {A B : Type 0} (f : B → ℕ) (of : A → B) (xs : List A) (i : ℕ) (x : A) → i < length xs → x ≡ get_or xs i x → f (of x) ≤ sum_by f (map of xs)
sum_at f of [] i x l e = absurd (omega arith)
sum_at f of (y ∷ ys) zero x l e = simp sum_by-cons (omega (arith, ap (λ z. f (of z)) e))
sum_at f of (y ∷ ys) (suc i) x l e = simp sum_by-cons (omega (arith, sum_at f of ys i x (omega arith) e))
