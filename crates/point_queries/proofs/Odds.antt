-- Odd numbers: of lists one after another, of lists in another order, and of pairs of two lists.
use Rattle.kit_words.proofs.Common.{◌≡◌, ℕ, zero, suc, ◌+◌, Bool, true, false, refl, sym, ap, ap₂, ◌∙◌, cond, not, List}
use Rattle.kit_words.proofs.Common.{[], ◌∷◌, ◌++◌, take, get_or, length, ◌<◌, ◌||◌, inl, inr, arith, list_any, filter}
use Rattle.kit_words.proofs.Common.{IsPermutation, false≢true, append-nil, take_more, filter_more, sum_by-IsPermutation}
use Rattle.kit_words.proofs.Common.{sum_by-cons}
use Rattle.std.specs.Prelude.{sum_by}
use Rattle.grid_geometry.specs.Common.{xor}
use Rattle.ring_machine.proofs.Common.{In, xor-assoc, xor-comm, xor-same, xor-none}
use Rattle.point_queries.specs.Common.{odd, EachOnce}

-- ---- of two truths

-- the sums of two sums
xor-cross : (a b c d : Bool) → xor (xor a b) (xor c d) ≡ xor (xor a c) (xor b d)
xor-cross a b c d = grind arith

-- ---- of lists

pub odd-append : {X : Type 0} (test : X → Bool) (xs ys : List X) → odd test (xs ++ ys) ≡ xor (odd test xs) (odd test ys)
odd-append test [] ys = refl
odd-append test (x ∷ xs) ys =
    ap (xor (test x)) (odd-append test xs ys) ∙ sym (xor-assoc (test x) (odd test xs) (odd test ys))

-- an element at the end
pub odd-pushed : {X : Type 0} (test : X → Bool) (xs : List X) (x : X) → odd test (xs ++ x ∷ []) ≡ xor (test x) (odd test xs)
odd-pushed test xs x =
    odd-append test xs (x ∷ []) ∙ ap (xor (odd test xs)) (xor-none (test x)) ∙ xor-comm (odd test xs) (test x)

pub odd-popped : {X : Type 0} (test : X → Bool) (xs ys : List X) (x : X) → ys ≡ xs ++ x ∷ [] → odd test xs ≡ xor (test x) (odd test ys)
odd-popped test xs ys x e =
    sym (ap (xor (test x)) (ap (odd test) e ∙ odd-pushed test xs x) ∙ sym (xor-assoc (test x) (test x) (odd test xs))
    ∙ ap (λ z. xor z (odd test xs)) (xor-same (test x)))

-- one element more
pub odd_more : {X : Type 0} (test : X → Bool) (xs : List X) (i : ℕ) (d : X) → i < length xs
    → odd test (take (i + 1) xs) ≡ xor (test (get_or xs i d)) (odd test (take i xs))
odd_more test xs i d l =
    ap (odd test) (take_more xs i d l) ∙ odd-pushed test (take i xs) (get_or xs i d)

-- tests that agree at each element
pub odd-alike : {X : Type 0} (f g : X → Bool) (xs : List X) → ((x : X) → In x xs → f x ≡ g x) → odd f xs ≡ odd g xs
odd-alike f g [] h = refl
odd-alike f g (x ∷ xs) h = ap₂ xor (h x (inl refl)) (odd-alike f g xs (λ y i. h y (inr i)))

pub odd-none : {X : Type 0} (xs : List X) → odd (λ x. false) xs ≡ false
odd-none [] = refl
odd-none (x ∷ xs) = odd-none xs

pub odd-xor : {X : Type 0} (f g : X → Bool) (xs : List X) → odd (λ x. xor (f x) (g x)) xs ≡ xor (odd f xs) (odd g xs)
odd-xor f g [] = refl
odd-xor f g (x ∷ xs) =
    ap (xor (xor (f x) (g x))) (odd-xor f g xs) ∙ xor-cross (f x) (g x) (odd f xs) (odd g xs)

-- pairs, counted by either list
pub odd-exchange : {X Y : Type 0} (f : X → Y → Bool) (xs : List X) (ys : List Y)
    → odd (λ x. odd (f x) ys) xs ≡ odd (λ y. odd (λ x. f x y) xs) ys
odd-exchange f [] ys = sym (odd-none ys)
odd-exchange f (x ∷ xs) ys =
    ap (xor (odd (f x) ys)) (odd-exchange f xs ys)
    ∙ sym (odd-xor (f x) (λ y. odd (λ x. f x y) xs) ys)

-- an odd number is not none
pub odd-some : {X : Type 0} (test : X → Bool) (xs : List X) → odd test xs ≡ true
    → (x : X) × In x xs × (test x ≡ true)
odd-some test [] h = absurd (false≢true h)
odd-some {X} test (x ∷ xs) h = by (test x) refl h (λ k. odd-some test xs k)
  where
    by : (b : Bool) → test x ≡ b → xor b (odd test xs) ≡ true
        → (odd test xs ≡ true → (y : X) × In y xs × (test y ≡ true)) → (y : X) × In y (x ∷ xs) × (test y ≡ true)
    by true e k rest = (x, inl refl, e)
    by false e k rest = let y = rest k in (y.0, inr y.1, y.2)

-- ---- in another order

abbrev is_odd : ℕ → Bool
is_odd zero = false
is_odd (suc n) = not (is_odd n)

abbrev one : Bool → ℕ
one b = cond b 1 0

odd_one : (b : Bool) (n : ℕ) → is_odd (one b + n) ≡ xor b (is_odd n)
odd_one true n = let e : 1 + n ≡ suc n = omega arith in ap is_odd e
odd_one false n = let e : 0 + n ≡ n = omega arith in ap is_odd e

odd_sum : {X : Type 0} (test : X → Bool) (xs : List X) → is_odd (sum_by (λ x. one (test x)) xs) ≡ odd test xs
odd_sum test [] = refl
odd_sum test (x ∷ xs) =
    ap is_odd (sum_by-cons (λ x. one (test x)) x xs) ∙ odd_one (test x) (sum_by (λ x. one (test x)) xs)
    ∙ ap (xor (test x)) (odd_sum test xs)

pub odd-permuted : {X : Type 0} (test : X → Bool) (xs ys : List X) → IsPermutation xs ys → odd test ys ≡ odd test xs
odd-permuted test xs ys p =
    sym (odd_sum test ys) ∙ ap is_odd (sum_by-IsPermutation (λ x. one (test x)) xs ys p) ∙ odd_sum test xs

-- ---- of elements that are apart

-- one of the elements, or none
module _ {X : Type 0} (eq : X → X → Bool) (same_by : (x y : X) → eq x y ≡ true → x ≡ y) where
  pub odd_apart : (x : X) (xs : List X) → EachOnce eq xs → odd (eq x) xs ≡ list_any (eq x) xs
  odd_apart x [] h = refl
  odd_apart x (y ∷ ys) h = by (eq x y) refl (odd_apart x ys h.1)
    where
      by : (b : Bool) → eq x y ≡ b → odd (eq x) ys ≡ list_any (eq x) ys → xor b (odd (eq x) ys) ≡ (b || list_any (eq x) ys)
      by true e k = ap not (k ∙ ap (λ z. list_any (eq z) ys) (same_by x y e) ∙ h.0)
      by false e k = k

-- ---- one element more of those that pass

pub filter_yes : {X : Type 0} (test : X → Bool) (xs : List X) (i : ℕ) (d : X) → i < length xs → test (get_or xs i d) ≡ true
    → filter test (take (i + 1) xs) ≡ filter test (take i xs) ++ get_or xs i d ∷ []
filter_yes test xs i d l h =
    filter_more test xs i d l ∙ ap (λ b. filter test (take i xs) ++ cond b (get_or xs i d ∷ []) []) h

pub filter_no : {X : Type 0} (test : X → Bool) (xs : List X) (i : ℕ) (d : X) → i < length xs → test (get_or xs i d) ≡ false
    → filter test (take (i + 1) xs) ≡ filter test (take i xs)
filter_no test xs i d l h =
    filter_more test xs i d l ∙ ap (λ b. filter test (take i xs) ++ cond b (get_or xs i d ∷ []) []) h
    ∙ append-nil (filter test (take i xs))
