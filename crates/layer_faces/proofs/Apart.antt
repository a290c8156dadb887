-- The numbers in one of two lists alone, where these are the numbers of polygons that pass tests.
use Rattle.kit_words.proofs.Common.{◌≡◌, ℕ, suc, ◌<◌, Bool, true, false, refl, ap, ◌∙◌, arith, cond, eqb, ltb, List, [], ◌∷◌, ◌++◌, take, drop}
use Rattle.std.proofs.Common.{rules, tests, ◌≢◌}
use Rattle.std.specs.List.{prefix_len}
use Rattle.std.proofs.lemmas.List.Sums.{prefix_len_is}
use Rattle.kit_words.proofs.Common.{◌+◌, ◌-◌, ◌≤◌, sym, ap₂, length, get_or, append_assoc, drop_of_length-le, get_or_default, next_drop, take_all}
use Rattle.grid_geometry.specs.Common.{xor}
use Rattle.layer_sides.specs.Common.{Polygon, numbers_from}
use Rattle.layer_faces.specs.Kept.{apart, merge_one}

-- the first of the list, if any, is above n
abbrev pub Above : ℕ → List ℕ → Type 0
Above n [] = Unit {0}
Above n (m ∷ ms) = n < m

pub above_from : (k n : ℕ) (test : Polygon → Bool) (ps : List Polygon) → k < n → Above k (numbers_from n test ps)
above_from k n test [] l = tt
above_from k n test (p ∷ ps) l = by (test p) (above_from k (suc n) test ps (omega arith))
  where
    by : (b : Bool) → Above k (numbers_from (suc n) test ps) → Above k (cond b (n ∷ numbers_from (suc n) test ps) (numbers_from (suc n) test ps))
    by true h = l
    by false h = h

not_less : (n : ℕ) → ltb n n ≡ false
not_less n = search (rules, tests)

same : (n : ℕ) → eqb n n ≡ true
same n = search (rules, tests)

not_below : (m n : ℕ) → n < m → ltb m n ≡ false
not_below m n l = search (rules, tests)

not_same : (m n : ℕ) → n < m → eqb m n ≡ false
not_same m n l = search (rules, tests)

below : (m n : ℕ) → n < m → ltb n m ≡ true
below m n l = search (rules, tests)

in_both : (n : ℕ) (g : List ℕ → List ℕ) (U : List ℕ) → merge_one n g (n ∷ U) ≡ g U
in_both n g U = rw (not_less n, same n) refl

in_first : (n : ℕ) (g : List ℕ → List ℕ) (U : List ℕ) → Above n U → merge_one n g U ≡ n ∷ g U
in_first n g [] a = refl
in_first n g (m ∷ U) a = rw (not_below m n a, not_same m n a) refl

in_second : (n : ℕ) (T U : List ℕ) → Above n T → apart T (n ∷ U) ≡ n ∷ apart T U
in_second n [] U a = refl
in_second n (m ∷ T) U a = rw (below m n a) refl

step : (b c : Bool) (n : ℕ) (T U R : List ℕ) → Above n T → Above n U → apart T U ≡ R
    → apart (cond b (n ∷ T) T) (cond c (n ∷ U) U) ≡ cond (xor b c) (n ∷ R) R
step true true n T U R t u e = in_both n (apart T) U ∙ e
step true false n T U R t u e = in_first n (apart T) U u ∙ ap (λ ns. n ∷ ns) e
step false true n T U R t u e = in_second n T U t ∙ ap (λ ns. n ∷ ns) e
step false false n T U R t u e = e

pub apart_numbers : (n : ℕ) (t u : Polygon → Bool) (ps : List Polygon)
    → apart (numbers_from n t ps) (numbers_from n u ps) ≡ numbers_from n (λ p. xor (t p) (u p)) ps
apart_numbers n t u [] = refl
apart_numbers n t u (p ∷ ps) =
    step (t p) (u p) n _ _ _ (above_from n (suc n) t ps (omega arith)) (above_from n (suc n) u ps (omega arith)) (apart_numbers (suc n) t u ps)

-- ---- a step of the code: the numbers below n go first

-- what follows on them, of the others from the first that is not below n
abbrev pub taken : ℕ → (List ℕ → List ℕ) → List ℕ → List ℕ
taken n g [] = n ∷ g []
taken n g (m ∷ ms) = cond (eqb m n) (g ms) (n ∷ g (m ∷ ms))

merged_step : (b : Bool) (n m k : ℕ) (g : List ℕ → List ℕ) (ms : List ℕ) → merge_one n g ms ≡ take k ms ++ taken n g (drop k ms)
    → cond b (m ∷ merge_one n g ms) (cond (eqb m n) (g ms) (n ∷ g (m ∷ ms)))
    ≡ take (cond b (1 + k) 0) (m ∷ ms) ++ taken n g (drop (cond b (1 + k) 0) (m ∷ ms))
merged_step true n m k g ms h = let e : 1 + k ≡ suc k = omega arith in rw e (ap (λ zs. m ∷ zs) h)
merged_step false n m k g ms h = refl

pub merged : (n : ℕ) (g : List ℕ → List ℕ) (ms : List ℕ)
    → merge_one n g ms ≡ take (prefix_len (λ m. ltb m n) ms) ms ++ taken n g (drop (prefix_len (λ m. ltb m n) ms) ms)
merged n g [] = refl
merged n g (m ∷ ms) = merged_step (ltb m n) n m (prefix_len (λ j. ltb j n) ms) g ms (merged n g ms)

not_under : (m n : ℕ) → n ≤ m → ltb m n ≡ false
not_under m n l = search (rules, tests)

same_as : (m n : ℕ) → m ≡ n → eqb m n ≡ true
same_as m n e = search (rules, tests)

other_than : (m n : ℕ) → m ≢ n → eqb m n ≡ false
other_than m n e = search (rules, tests)

-- n is the first of what follows, which goes on after it
first_taken : (n : ℕ) (g : List ℕ → List ℕ) (back : List ℕ) → 1 ≤ length back → get_or back 0 0 ≡ n
    → g (take (length back - 1) (drop 1 back)) ≡ taken n g back
first_taken n g [] l e = absurd (omega (arith, l))
first_taken n g (m ∷ ms) l e =
    ap g (take_all (length (m ∷ ms) - 1) ms (omega arith)) ∙ sym (ap (λ b. cond b (g ms) (n ∷ g (m ∷ ms))) (same_as m n e))

is_below : (m n : ℕ) → ltb m n ≡ true → m < n
is_below m n e = search (rules, tests)

-- n is not the first of what follows
pub taken_short : (n : ℕ) (g : List ℕ → List ℕ) (back : List ℕ) → ltb (length back) 1 ≡ true → taken n g back ≡ n ∷ g back
taken_short n g [] l = refl
taken_short n g (m ∷ ms) l = let few : length (m ∷ ms) < 1 = is_below (length (m ∷ ms)) 1 l in absurd (omega (arith, few))

pub taken_other : (n : ℕ) (g : List ℕ → List ℕ) (back : List ℕ) → get_or back 0 0 ≢ n → taken n g back ≡ n ∷ g back
taken_other n g [] l = refl
taken_other n g (m ∷ ms) l = ap (λ b. cond b (g ms) (n ∷ g (m ∷ ms))) (other_than m n l)

module _ (n k : ℕ) (g : List ℕ → List ℕ) (ms front back found more : List ℕ) (is : k ≡ prefix_len (λ m. ltb m n) ms)
    (before : front ≡ take k ms) (after : back ≡ drop k ms) (pushed : more ≡ found ++ front) where
  at_front : (xs : List ℕ) → xs ≡ taken n g back → front ++ xs ≡ merge_one n g ms
  at_front xs e =
      ap₂ (λ (ys zs : List ℕ). ys ++ zs) (before ∙ ap (λ j. take j ms) is) (e ∙ ap (taken n g) (after ∙ ap (λ j. drop j ms) is)) ∙ sym (merged n g ms)

  pub pushed_first : 1 ≤ length back → get_or back 0 0 ≡ n → more ++ g (take (length back - 1) (drop 1 back)) ≡ found ++ merge_one n g ms
  pushed_first l e =
      let rest = g (take (length back - 1) (drop 1 back)) in
      ap (λ xs. xs ++ rest) pushed ∙ append_assoc found front rest ∙ ap (λ xs. found ++ xs) (at_front rest (first_taken n g back l e))

  pub pushed_other : (last : List ℕ) → last ≡ more ++ n ∷ [] → taken n g back ≡ n ∷ g back → last ++ g back ≡ found ++ merge_one n g ms
  pushed_other last e t =
      ap (λ xs. xs ++ g back) (e ∙ ap (λ xs. xs ++ n ∷ []) pushed)
      ∙ append_assoc (found ++ front) (n ∷ []) (g back)
      ∙ append_assoc found front (n ∷ g back)
      ∙ ap (λ xs. found ++ xs) (at_front (n ∷ g back) (sym t))

-- ---- one number more, and the rest

pub pushed_more : (some found more rest left all : List ℕ) (i : ℕ) → i < length some
    → ((g : List ℕ → List ℕ) → more ++ g left ≡ found ++ merge_one (get_or some i 0) g rest)
    → found ++ apart (drop i some) rest ≡ all → more ++ apart (drop (i + 1) some) left ≡ all
pushed_more some found more rest left all i l step is =
    step (apart (drop (i + 1) some))
    ∙ ap (λ (ns : List ℕ). found ++ apart ns rest) (sym (next_drop some i (get_or some i 0) l (get_or_default some i 0 (get_or some i 0) l))) ∙ is

pub pushed_all : (some found more rest all : List ℕ) (i : ℕ) → length some ≤ i → more ≡ found ++ rest
    → found ++ apart (drop i some) rest ≡ all → more ≡ all
pushed_all some found more rest all i l pushed is =
    pushed ∙ ap (λ (ns : List ℕ). found ++ apart ns rest) (sym (drop_of_length-le some l)) ∙ is

-- ---- how many are below n

pub counted_some : (n i : ℕ) (ms : List ℕ) → i < length ms → ((k : ℕ) → k < i → ltb (get_or ms k 0) n ≡ true) → n ≤ get_or ms i 0
    → i ≡ prefix_len (λ m. ltb m n) ms
counted_some n i ms l below e =
    sym (prefix_len_is (λ m. ltb m n) ms i 0 (omega (arith, l)) below (λ w. not_under (get_or ms i 0) n e))

pub counted_all : (n i : ℕ) (ms : List ℕ) → i ≤ length ms → length ms ≤ i → ((k : ℕ) → k < i → ltb (get_or ms k 0) n ≡ true)
    → i ≡ prefix_len (λ m. ltb m n) ms
counted_all n i ms h l below = sym (prefix_len_is (λ m. ltb m n) ms i 0 h below (λ w. absurd (omega (arith, w, l))))
