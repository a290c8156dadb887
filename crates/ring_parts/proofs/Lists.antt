-- Lists of rings and polygons, one at a time.
use Rattle.kit_words.proofs.Common.{◌≡◌, ℕ, zero, suc, ◌+◌, ◌<◌, ◌≤◌, ◌-◌, Bool, true, false, refl, sym, ap, ap₂, ◌∙◌}
use Rattle.kit_words.proofs.Common.{cond, List, [], ◌∷◌, map, length, take, get_or, arith, ◌||◌, list_any, take_all}
use Rattle.kit_words.proofs.Common.{list_any-append, false≢true, mapped_more}
use Rattle.ring_machine.specs.Common.{first_that}

module _ {A B : Type 0} (of : A → B) (test : B → Bool) where
  -- none so far, and not this one
  pub none_more : (xs : List A) (i : ℕ) (x : A) → i < length xs → x ≡ get_or xs i x → list_any test (map of (take i xs)) ≡ false → test (of x) ≡ false → list_any test (map of (take (i + 1) xs)) ≡ false
  none_more xs i x l e h k = ap (list_any test) (mapped_more of xs i x l e) ∙ list_any-append test (map of (take i xs)) (of x ∷ []) ∙ ap₂ (λ a b. a || (b || false)) h k

  -- this one
  pub some_here : (xs : List A) (i : ℕ) (x : A) → i < length xs → x ≡ get_or xs i x → test (of x) ≡ true → list_any test (map of xs) ≡ true
  some_here [] i x l e k = absurd (omega arith)
  some_here (y ∷ ys) zero x l e k = ap (λ b. b || list_any test (map of ys)) (ap (λ z. test (of z)) (sym e) ∙ k)
  some_here (y ∷ ys) (suc i) x l e k = right (test (of y)) (some_here ys i x (omega arith) e k)
    where
      right : (a : Bool) → list_any test (map of ys) ≡ true → (a || list_any test (map of ys)) ≡ true
      right true h = refl
      right false h = h

  -- none of them all
  pub none_at_all : (xs : List A) (i : ℕ) → length xs ≤ i → list_any test (map of (take i xs)) ≡ false → list_any test (map of xs) ≡ false
  none_at_all xs i l h = ap (λ ys. list_any test (map of ys)) (sym (take_all i xs l)) ∙ h

  -- the first one
  pub first_here : (xs : List A) (i : ℕ) (x : A) (d : B) → i < length xs → x ≡ get_or xs i x → list_any test (map of (take i xs)) ≡ false → test (of x) ≡ true → first_that test (map of xs) ≡ get_or (map of xs) i d ∷ []
  first_here [] i x d l e h k = absurd (omega arith)
  first_here (y ∷ ys) zero x d l e h k = ap (λ b. cond b (of y ∷ []) (first_that test (map of ys))) (ap (λ z. test (of z)) (sym e) ∙ k)
  first_here (y ∷ ys) (suc i) x d l e h k = by (test (of y)) h (λ f. first_here ys i x d (omega arith) e f k)
    where
      by : (b : Bool) → (b || list_any test (map of (take i ys))) ≡ false → (list_any test (map of (take i ys)) ≡ false → first_that test (map of ys) ≡ get_or (map of ys) i d ∷ []) → cond b (of y ∷ []) (first_that test (map of ys)) ≡ get_or (map of ys) i d ∷ []
      by true f rest = absurd (false≢true (sym f))
      by false f rest = rest f

pub map-take : {A B : Type 0} (of : A → B) (i : ℕ) (xs : List A) → map of (take i xs) ≡ take i (map of xs)
map-take of zero xs = refl
map-take of (suc i) [] = refl
map-take of (suc i) (x ∷ xs) = ap (λ ys. of x ∷ ys) (map-take of i xs)
