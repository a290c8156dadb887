-- Odd numbers: of lists one after another, of pairs of two lists, and of elements that cancel in pairs.
use Rattle.kit_words.proofs.Common.{◌≡◌, ℕ, ◌+◌, ◌%◌, ◌==◌, Bool, true, false, refl, sym, ap, ap₂, ◌∙◌, subst, cond, not, List, []}
use Rattle.kit_words.proofs.Common.{◌∷◌, ◌++◌, map, inl, inr, arith, list_any, flat_map, false≢true, ◌&&◌, ◌||◌}
use Rattle.kit_words.proofs.Common.{count_by, nat_tests, sum_by-cons, Ordering, IsStrictlySortedBy}
use Rattle.kit_words.proofs.Common.{IsTotalOrder, false_from_ne_true}
use Rattle.grid_geometry.specs.Common.{xor}
use Rattle.ring_machine.proofs.Common.{In, any_in, in_any, same_answer, xor-assoc, xor-none}
use Rattle.layer_sides.proofs.Ascending.{not_less, rises_first, rises_rest}

-- an odd number of the elements pass the test
abbrev pub odd : {X : Type 0} → (X → Bool) → List X → Bool
odd test [] = false
odd test (x ∷ xs) = xor (test x) (odd test xs)

-- the sums of two sums
xor-cross : (a b c d : Bool) → xor (xor a b) (xor c d) ≡ xor (xor a c) (xor b d)
xor-cross a b c d = grind arith

pub odd-append : {X : Type 0} (test : X → Bool) (xs ys : List X) → odd test (xs ++ ys) ≡ xor (odd test xs) (odd test ys)
odd-append test [] ys = refl
odd-append test (x ∷ xs) ys =
    ap (xor (test x)) (odd-append test xs ys) ∙ sym (xor-assoc (test x) (odd test xs) (odd test ys))

-- tests that agree at each element
pub odd-alike : {X : Type 0} (f g : X → Bool) (xs : List X) → ((x : X) → In x xs → f x ≡ g x) → odd f xs ≡ odd g xs
odd-alike f g [] h = refl
odd-alike f g (x ∷ xs) h = ap₂ xor (h x (inl refl)) (odd-alike f g xs (λ y i. h y (inr i)))

pub odd-none : {X : Type 0} (xs : List X) → odd (λ x. false) xs ≡ false
odd-none [] = refl
odd-none (x ∷ xs) = odd-none xs

pub odd-xor : {X : Type 0} (f g : X → Bool) (xs : List X) → odd (λ x. xor (f x) (g x)) xs ≡ xor (odd f xs) (odd g xs)
odd-xor f g [] = refl
odd-xor f g (x ∷ xs) =
    ap (xor (xor (f x) (g x))) (odd-xor f g xs) ∙ xor-cross (f x) (g x) (odd f xs) (odd g xs)

-- pairs, counted by either list
pub odd-exchange : {X Y : Type 0} (f : X → Y → Bool) (xs : List X) (ys : List Y)
    → odd (λ x. odd (f x) ys) xs ≡ odd (λ y. odd (λ x. f x y) xs) ys
odd-exchange f [] ys = sym (odd-none ys)
odd-exchange f (x ∷ xs) ys =
    ap (xor (odd (f x) ys)) (odd-exchange f xs ys)
    ∙ sym (odd-xor (f x) (λ y. odd (λ x. f x y) xs) ys)

pub odd-map : {X Y : Type 0} (test : Y → Bool) (f : X → Y) (xs : List X) → odd test (map f xs) ≡ odd (λ x. test (f x)) xs
odd-map test f [] = refl
odd-map test f (x ∷ xs) = ap (xor (test (f x))) (odd-map test f xs)

pub odd-flat : {X Y : Type 0} (test : Y → Bool) (f : X → List Y) (xs : List X) → odd test (flat_map f xs) ≡ odd (λ x. odd test (f x)) xs
odd-flat test f [] = refl
odd-flat test f (x ∷ xs) = odd-append test (f x) (flat_map f xs) ∙ ap (xor (odd test (f x))) (odd-flat test f xs)

-- a test that is asked of all elements, or of none
pub odd-only : {X : Type 0} (b : Bool) (test : X → Bool) (xs : List X) → odd (λ x. test x && b) xs ≡ (odd test xs && b)
odd-only b test [] = refl
odd-only b test (x ∷ xs) = ap (xor (test x && b)) (odd-only b test xs) ∙ both (test x) (odd test xs) b
  where
    both : (p q b : Bool) → xor (p && b) (q && b) ≡ (xor p q && b)
    both p q b = grind arith

-- an odd number is not none
pub odd-some : {X : Type 0} (test : X → Bool) (xs : List X) → odd test xs ≡ true
    → (x : X) × In x xs × (test x ≡ true)
odd-some test [] h = absurd (false≢true h)
odd-some {X} test (x ∷ xs) h = by (test x) refl h (λ k. odd-some test xs k)
  where
    by : (b : Bool) → test x ≡ b → xor b (odd test xs) ≡ true
        → (odd test xs ≡ true → (y : X) × In y xs × (test y ≡ true)) → (y : X) × In y (x ∷ xs) × (test y ≡ true)
    by true e k rest = (x, inl refl, e)
    by false e k rest = let y = rest k in (y.0, inr y.1, y.2)

-- ---- by a number

odd_next : (n : ℕ) → ((n + 1) % 2 == 1) ≡ not (n % 2 == 1)
odd_next n = grind (arith, nat_tests)

odd_more : (b : Bool) (n : ℕ) → ((cond b 1 0 + n) % 2 == 1) ≡ xor b (n % 2 == 1)
odd_more true n = let e : 1 + n ≡ n + 1 = omega arith in ap (λ z. z % 2 == 1) e ∙ odd_next n
odd_more false n = let e : 0 + n ≡ n = omega arith in ap (λ z. z % 2 == 1) e

pub odd_count : {X : Type 0} (test : X → Bool) (xs : List X) → (count_by test xs % 2 == 1) ≡ odd test xs
odd_count test [] = refl
odd_count test (x ∷ xs) =
    ap (λ z. z % 2 == 1) (sum_by-cons (λ u. cond {A = ℕ} (test u) 1 0) x xs) ∙ odd_more (test x) (count_by test xs)
    ∙ ap (xor (test x)) (odd_count test xs)

-- ---- of ascending elements

module _ {X : Type 0} (eq : X → X → Bool) (same_by : (x y : X) → eq x y ≡ true → x ≡ y) (eq-refl : (x : X) → eq x x ≡ true) where
  -- one element among those that are apart, or none
  pub odd_apart : (cmp : X → X → Ordering) → IsTotalOrder cmp → (x : X) (xs : List X) → IsStrictlySortedBy cmp xs → odd (eq x) xs ≡ list_any (eq x) xs
  odd_apart cmp total x [] h = refl
  odd_apart cmp total x (y ∷ ys) h = by (eq x y) refl (odd_apart cmp total x ys (rises_rest cmp y ys h))
    where
      none_else : eq x y ≡ true → list_any (eq x) ys ≡ false
      none_else e = false_from_ne_true (list_any (eq x) ys) (λ t.
          let z = any_in (eq x) ys t in
          not_less cmp total y (ap (cmp y) (sym (same_by x y e) ∙ same_by x z.0 z.2) ∙ rises_first cmp y ys h z.0 z.1))

      by : (b : Bool) → eq x y ≡ b → odd (eq x) ys ≡ list_any (eq x) ys → xor b (odd (eq x) ys) ≡ (b || list_any (eq x) ys)
      by true e k = ap not (k ∙ none_else e)
      by false e k = k

  -- ---- elements that stand an even number of times count for nothing

  -- each of the elements once
  abbrev once : List X → List X
  once [] = []
  once (x ∷ xs) = cond (list_any (eq x) (once xs)) (once xs) (x ∷ once xs)

  among : (zs : List X) (x : X) → list_any (eq x) zs ≡ true → In x zs
  among zs x t = let z = any_in (eq x) zs t in subst (λ w. In w zs) (sym (same_by x z.0 z.2)) z.1

  once-covers : (xs : List X) (x : X) → In x xs → list_any (eq x) (once xs) ≡ true
  once-covers [] x i = absurd i
  once-covers (y ∷ ys) x i = by (list_any (eq y) (once ys)) refl i (λ j. once-covers ys x j)
    where
      by : (b : Bool) → list_any (eq y) (once ys) ≡ b → In x (y ∷ ys) → (In x ys → list_any (eq x) (once ys) ≡ true)
          → list_any (eq x) (cond b (once ys) (y ∷ once ys)) ≡ true
      by true e (inl f) rest = ap (λ z. list_any (eq z) (once ys)) (sym f) ∙ e
      by true e (inr j) rest = rest j
      by false e (inl f) rest = ap (λ b. b || list_any (eq x) (once ys)) (ap (eq x) f ∙ eq-refl x)
      by false e (inr j) rest = in_any (eq x) x (y ∷ once ys) (inr (among (once ys) x (rest j))) (eq-refl x)

  once-apart : (xs : List X) (x : X) → odd (eq x) (once xs) ≡ list_any (eq x) (once xs)
  once-apart [] x = refl
  once-apart (y ∷ ys) x = by (list_any (eq y) (once ys)) refl (once-apart ys x)
    where
      here : list_any (eq y) (once ys) ≡ false → (b : Bool) → eq x y ≡ b → odd (eq x) (once ys) ≡ list_any (eq x) (once ys)
          → xor b (odd (eq x) (once ys)) ≡ (b || list_any (eq x) (once ys))
      here e true f rest = ap not (rest ∙ ap (λ z. list_any (eq z) (once ys)) (same_by x y f) ∙ e)
      here e false f rest = rest

      by : (b : Bool) → list_any (eq y) (once ys) ≡ b → odd (eq x) (once ys) ≡ list_any (eq x) (once ys)
          → odd (eq x) (cond b (once ys) (y ∷ once ys)) ≡ list_any (eq x) (cond b (once ys) (y ∷ once ys))
      by true e rest = rest
      by false e rest = here e (eq x y) refl rest

  -- of a list, counted by its elements, each once
  odd_once : (f : X → Bool) (xs : List X) → odd f xs ≡ odd (λ y. odd (eq y) xs && f y) (once xs)
  odd_once f xs =
      odd-alike f (λ x. odd (λ y. eq y x && f y) (once xs)) xs (λ x i. sym (one_of x (once-covers xs x i)))
      ∙ odd-exchange (λ x y. eq y x && f y) xs (once xs)
      ∙ odd-alike (λ y. odd (λ x. eq y x && f y) xs) (λ y. odd (eq y) xs && f y) (once xs) (λ y i. odd-only (f y) (eq y) xs)
    where
      turned : (x y : X) → (eq y x && f y) ≡ (eq x y && f x)
      turned x y = same_answer (eq y x && f y) (eq x y && f x)
          (λ t. let k = both (eq y x) (f y) t in let e = same_by y x k.0 in pair (eq x y) (f x) (ap (eq x) e ∙ eq-refl x) (ap f (sym e) ∙ k.1))
          (λ t. let k = both (eq x y) (f x) t in let e = same_by x y k.0 in pair (eq y x) (f y) (ap (eq y) e ∙ eq-refl y) (ap f (sym e) ∙ k.1))
        where
          both : (a b : Bool) → (a && b) ≡ true → (a ≡ true) × (b ≡ true)
          both true true t = (refl, refl)
          both true false t = absurd (false≢true t)
          both false b t = absurd (false≢true t)

          pair : (a b : Bool) → a ≡ true → b ≡ true → (a && b) ≡ true
          pair a b e f = ap₂ (λ y z. y && z) e f

      one_of : (x : X) → list_any (eq x) (once xs) ≡ true → odd (λ y. eq y x && f y) (once xs) ≡ f x
      one_of x t =
          odd-alike (λ y. eq y x && f y) (λ y. eq x y && f x) (once xs) (λ y i. turned x y)
          ∙ odd-only (f x) (eq x) (once xs) ∙ ap (λ b. b && f x) (once-apart xs x ∙ t)

  -- a test that only elements pass which stand an even number of times
  pub odd_evens : (g : X → Bool) (xs : List X) → ((x : X) → g x ≡ true → odd (eq x) xs ≡ false) → odd g xs ≡ false
  odd_evens g xs h =
      odd_once g xs
      ∙ odd-alike (λ y. odd (eq y) xs && g y) (λ y. false) (once xs) (λ y i. never (odd (eq y) xs) (g y) (h y))
      ∙ odd-none (once xs)
    where
      never : (a b : Bool) → (b ≡ true → a ≡ false) → (a && b) ≡ false
      never a true k = ap (λ z. z && true) (k refl)
      never true false k = refl
      never false false k = refl

  -- counted by ascending elements, among which are all that stand an odd number of times
  pub odd_by : (cmp : X → X → Ordering) → IsTotalOrder cmp → (f : X → Bool) (xs ys : List X) → IsStrictlySortedBy cmp ys
      → ((y : X) → odd (eq y) xs ≡ true → In y ys) → odd f xs ≡ odd (λ y. odd (eq y) xs && f y) ys
  odd_by cmp total f xs ys rising covers =
      odd-alike f (λ x. xor (odd (λ y. eq y x && f x) ys) (rest x)) xs (λ x i. parts x)
      ∙ odd-xor (λ x. odd (λ y. eq y x && f x) ys) rest xs
      ∙ ap₂ xor there (odd_evens rest xs even) ∙ xor-none (odd (λ y. odd (eq y) xs && f y) ys)
    where
      rest : X → Bool
      rest x = f x && not (list_any (eq x) ys)

      eq-sym : (x y : X) → eq y x ≡ eq x y
      eq-sym x y = same_answer (eq y x) (eq x y) (λ t. ap (λ z. eq z y) (sym (same_by y x t)) ∙ eq-refl y) (λ t. ap (λ z. eq z x) (sym (same_by x y t)) ∙ eq-refl x)

      split : (b a : Bool) → b ≡ xor (a && b) (b && not a)
      split b a = grind arith

      parts : (x : X) → f x ≡ xor (odd (λ y. eq y x && f x) ys) (rest x)
      parts x =
          split (f x) (list_any (eq x) ys)
          ∙ ap (λ z. xor z (rest x)) (sym (odd-only (f x) (λ y. eq y x) ys
          ∙ ap (λ z. z && f x) (odd-alike (λ y. eq y x) (eq x) ys (λ y i. eq-sym x y) ∙ odd_apart cmp total x ys rising)))

      here : (x y : X) → (eq y x && f x) ≡ (eq y x && f y)
      here x y = by (eq y x) refl
        where
          by : (b : Bool) → eq y x ≡ b → (b && f x) ≡ (b && f y)
          by true e = ap f (sym (same_by y x e))
          by false e = refl

      there : odd (λ x. odd (λ y. eq y x && f x) ys) xs ≡ odd (λ y. odd (eq y) xs && f y) ys
      there =
          odd-exchange (λ x y. eq y x && f x) xs ys
          ∙ odd-alike (λ y. odd (λ x. eq y x && f x) xs) (λ y. odd (eq y) xs && f y) ys
          (λ y i. odd-alike (λ x. eq y x && f x) (λ x. eq y x && f y) xs (λ x j. here x y) ∙ odd-only (f y) (eq y) xs)

      even : (x : X) → rest x ≡ true → odd (eq x) xs ≡ false
      even x t = false_from_ne_true (odd (eq x) xs) (λ o.
          false≢true (sym (ap (λ z. f x && not z) (in_any (eq x) x ys (covers x o) (eq-refl x)) ∙ none (f x)) ∙ t))
        where
          none : (a : Bool) → (a && not true) ≡ false
          none true = refl
          none false = refl
