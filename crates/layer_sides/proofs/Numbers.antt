-- Ascending numbers of polygons that pass a test.
use Rattle.kit_words.proofs.Common.{◌≡◌, ◌<◌, ◌≤◌, ℕ, suc, Bool, true, false, refl, sym, ap, ◌∙◌, subst, cond}
use Rattle.kit_words.proofs.Common.{List, [], ◌∷◌, inl, inr, ◌||◌, ◌==◌, arith, AllByRecursion}
use Rattle.kit_words.proofs.Common.{IsStrictlySortedBy, nat_cmp, Less, Decides-eqb, by_bool, nat_cmp_is}
use Rattle.kit_words.proofs.Common.{nat_cmp_total}
use Rattle.ring_machine.proofs.Common.{In, any_in, in_any}
use Rattle.layer_sides.specs.Common.{Polygon, numbers_from, has_number}
use Rattle.layer_sides.proofs.Ascending.{same_ascending}

-- the polygon with number k passes the test, where the first has number n
abbrev pub test_from : ℕ → (Polygon → Bool) → List Polygon → ℕ → Bool
test_from n test [] k = false
test_from n test (p ∷ ps) k = cond (n == k) (test p) (test_from (suc n) test ps k)

itself : (n : ℕ) → (n == n) ≡ true
itself n = (Decides-eqb n n).1 refl

pub differ : (n k : ℕ) → (n ≡ k → ⊥) → (n == k) ≡ false
differ n k h = by_bool (n == k) (λ t. absurd (h ((Decides-eqb n k).0 t))) (λ f. f)

-- no number is less than that of the first
pub none_less : (n : ℕ) (test : Polygon → Bool) (ps : List Polygon) (k : ℕ) → k < n → test_from n test ps k ≡ false
none_less n test [] k l = refl
none_less n test (p ∷ ps) k l =
    ap (λ b. cond b (test p) (test_from (suc n) test ps k)) (differ n k (λ e. absurd (omega (arith, e, l))))
    ∙ none_less (suc n) test ps k (omega (arith, l))

-- ---- the numbers

pub has-numbers : (n : ℕ) (test : Polygon → Bool) (ps : List Polygon) (k : ℕ) → has_number k (numbers_from n test ps) ≡ test_from n test ps k
has-numbers n test [] k = refl
has-numbers n test (p ∷ ps) k = by (test p) (n == k) refl (has-numbers (suc n) test ps k)
  where
    by : (t e : Bool) → (n == k) ≡ e → has_number k (numbers_from (suc n) test ps) ≡ test_from (suc n) test ps k
        → has_number k (cond t (n ∷ numbers_from (suc n) test ps) (numbers_from (suc n) test ps)) ≡ cond e t (test_from (suc n) test ps k)
    by true true e ih = ap (λ b. b || has_number k (numbers_from (suc n) test ps)) e
    by true false e ih = ap (λ b. b || has_number k (numbers_from (suc n) test ps)) e ∙ ih
    by false true e ih = ih ∙ none_less (suc n) test ps k (omega (arith, (Decides-eqb n k).0 e))
    by false false e ih = ih

less : (m n : ℕ) → m < n → nat_cmp m n ≡ Less
less m n l = sym (nat_cmp_is m n Less l)

all_beyond : (m n : ℕ) (test : Polygon → Bool) (ps : List Polygon) → m < n → AllByRecursion (λ k. nat_cmp m k ≡ Less) (numbers_from n test ps)
all_beyond m n test [] l = tt
all_beyond m n test (p ∷ ps) l = by (test p) (all_beyond m (suc n) test ps (omega (arith, l)))
  where
    by : (t : Bool) → AllByRecursion (λ k. nat_cmp m k ≡ Less) (numbers_from (suc n) test ps)
        → AllByRecursion (λ k. nat_cmp m k ≡ Less) (cond t (n ∷ numbers_from (suc n) test ps) (numbers_from (suc n) test ps))
    by true h = (less m n l, h)
    by false h = h

pub numbers-ascend : (n : ℕ) (test : Polygon → Bool) (ps : List Polygon) → IsStrictlySortedBy nat_cmp (numbers_from n test ps)
unfolding IsStrictlySortedBy
numbers-ascend n test [] = tt
numbers-ascend n test (p ∷ ps) = by (test p) (numbers-ascend (suc n) test ps)
  where
    by : (t : Bool) → IsStrictlySortedBy nat_cmp (numbers_from (suc n) test ps)
        → IsStrictlySortedBy nat_cmp (cond t (n ∷ numbers_from (suc n) test ps) (numbers_from (suc n) test ps))
    by true h = (all_beyond n (suc n) test ps (omega arith), h)
    by false h = h

-- ---- as members

pub has-in_list : (ns : List ℕ) (k : ℕ) → has_number k ns ≡ true → In k ns
has-in_list ns k h = let m = any_in (λ m. m == k) ns h in subst (λ z. In z ns) ((Decides-eqb m.0 k).0 m.2) m.1

pub in_list-has : (ns : List ℕ) (k : ℕ) → In k ns → has_number k ns ≡ true
in_list-has ns k i = in_any (λ m. m == k) k ns i (itself k)

-- ascending numbers with the same members are one list
pub same_numbers : (ms ns : List ℕ) → IsStrictlySortedBy nat_cmp ms → IsStrictlySortedBy nat_cmp ns
    → ((k : ℕ) → has_number k ms ≡ has_number k ns) → ms ≡ ns
same_numbers ms ns h k e =
    same_ascending nat_cmp nat_cmp_total ms ns h k
    (λ a i. has-in_list ns a (sym (e a) ∙ in_list-has ms a i))
    (λ a i. has-in_list ms a (e a ∙ in_list-has ns a i))

-- ---- a polygon with this number, or none

pub data IsNumbered (n : ℕ) (ps : List Polygon) (k : ℕ) : Type 0 where
  there : (p : Polygon) → In p ps → ((test : Polygon → Bool) → test_from n test ps k ≡ test p) → IsNumbered n ps k
  absent : ((test : Polygon → Bool) → test_from n test ps k ≡ false) → IsNumbered n ps k

pub numbered_as : (n : ℕ) (ps : List Polygon) (k : ℕ) → IsNumbered n ps k
numbered_as n [] k = absent (λ test. refl)
numbered_as n (p ∷ ps) k = by (n == k) refl (numbered_as (suc n) ps k)
  where
    by : (e : Bool) → (n == k) ≡ e → IsNumbered (suc n) ps k → IsNumbered n (p ∷ ps) k
    by true e rest = there p (inl refl) (λ test. ap (λ b. cond b (test p) (test_from (suc n) test ps k)) e)
    by false e (there q i h) = there q (inr i) (λ test. ap (λ b. cond b (test p) (test_from (suc n) test ps k)) e ∙ h test)
    by false e (absent h) = absent (λ test. ap (λ b. cond b (test p) (test_from (suc n) test ps k)) e ∙ h test)

-- a polygon that passes has a number
pub number_of : (n : ℕ) (test : Polygon → Bool) (ps : List Polygon) (p : Polygon) → In p ps → test p ≡ true
    → (k : ℕ) × (n ≤ k) × (test_from n test ps k ≡ true)
number_of n test [] p i t = absurd i
number_of n test (q ∷ ps) p (inl e) t =
    (n, omega arith, ap (λ b. cond b (test q) (test_from (suc n) test ps n)) (itself n) ∙ ap test e ∙ t)
number_of n test (q ∷ ps) p (inr i) t =
    let k = number_of (suc n) test ps p i t in
    (k.0, omega (arith, k.1), ap (λ b. cond b (test q) (test_from (suc n) test ps k.0)) (differ n k.0 (λ e. absurd (omega (arith, e, k.1)))) ∙ k.2)
