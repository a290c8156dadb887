-- Of two lists of segments the one that has no more takes no more tests.
use Rattle.kit_words.proofs.Common.{◌≡◌, ◌≤◌, ◌+◌, ◌-◌, ℕ, Bool, true, false, not, refl, sym, ap, ◌∙◌, cond, List, []}
use Rattle.kit_words.proofs.Common.{◌∷◌, length, ◌||◌, ◌&&◌, arith, filter, sum_by, false≢true, sum_by-cons}
use Rattle.grid_geometry.specs.Common.{Segment, Box}
use Rattle.segment_index.specs.Common.{AreSingle, has, segment_is}
use Rattle.segment_index.proofs.Common.{same_segment, is-itself, times-some}
use Rattle.local_planarity.specs.Common.{most_given, most_tests, pair_count}
use Rattle.local_planarity.proofs.Nearby.{has-filter, pairs-mono, ones}

-- a segment and those that are another
pub one_out : (f : Segment → ℕ) (x : Segment) (ys : List Segment) → has ys x ≡ true
    → f x + sum_by f (filter (λ y. not (segment_is x y)) ys) ≤ sum_by f ys
one_out f x [] h = absurd (false≢true h)
one_out f x (y ∷ ys) h = by (segment_is x y) refl h (one_out f x ys)
  where
    fewer : (zs : List Segment) → sum_by f (filter (λ z. not (segment_is x z)) zs) ≤ sum_by f zs
    fewer [] = omega arith
    fewer (z ∷ zs) = step (not (segment_is x z)) (fewer zs)
      where
        step : (b : Bool) → sum_by f (filter (λ w. not (segment_is x w)) zs) ≤ sum_by f zs
            → sum_by f (cond b (z ∷ filter (λ w. not (segment_is x w)) zs) (filter (λ w. not (segment_is x w)) zs)) ≤ sum_by f (z ∷ zs)
        step true l = omega (arith, l, sum_by-cons f z (filter (λ w. not (segment_is x w)) zs), sum_by-cons f z zs)
        step false l = omega (arith, l, sum_by-cons f z zs)

    by : (b : Bool) → segment_is x y ≡ b → (b || has ys x) ≡ true
        → (has ys x ≡ true → f x + sum_by f (filter (λ z. not (segment_is x z)) ys) ≤ sum_by f ys)
        → f x + sum_by f (cond (not b) (y ∷ filter (λ z. not (segment_is x z)) ys) (filter (λ z. not (segment_is x z)) ys)) ≤ sum_by f (y ∷ ys)
    by true e k l = omega (arith, ap f (same_segment x y e), fewer ys, sum_by-cons f y ys)
    by false e k l = omega (arith, l k, sum_by-cons f y (filter (λ z. not (segment_is x z)) ys), sum_by-cons f y ys)

pub single_rest : (x : Segment) (xs : List Segment) → AreSingle (x ∷ xs) → AreSingle xs
single_rest x xs h t = omega (arith, h t)

pub single_first : (x : Segment) (xs : List Segment) → AreSingle (x ∷ xs) → has xs x ≡ false
single_first x xs h = by (has xs x) refl
  where
    by : (b : Bool) → has xs x ≡ b → has xs x ≡ false
    by false e = e
    by true e =
        let here : cond {A = ℕ} (segment_is x x) 1 0 ≡ 1 = ap (λ b. cond {A = ℕ} b 1 0) (is-itself x) in
        absurd (omega (arith, h x, here, times-some xs x e))

-- the sum over segments that stand once, and are all in a list
pub sum_among : (f : Segment → ℕ) (xs ys : List Segment) → AreSingle xs
    → ((t : Segment) → has xs t ≡ true → has ys t ≡ true) → sum_by f xs ≤ sum_by f ys
sum_among f [] ys single into = omega arith
sum_among f (x ∷ xs) ys single into =
    omega (
      arith,
      sum_by-cons f x xs,
      one_out f x ys (into x (ap (λ b. b || has xs x) (is-itself x))),
      sum_among f xs (filter (λ y. not (segment_is x y)) ys) (single_rest x xs single) rest,
    )
  where
    or_right : (a : Bool) {b : Bool} → b ≡ true → (a || b) ≡ true
    or_right true e = refl
    or_right false e = e

    other : (t : Segment) → has xs t ≡ true → (b : Bool) → segment_is x t ≡ b → not b ≡ true
    other t h false e = refl
    other t h true e =
        absurd (false≢true (sym (single_first x xs single) ∙ ap (has xs) (same_segment x t e) ∙ h))

    rest : (t : Segment) → has xs t ≡ true → has (filter (λ y. not (segment_is x y)) ys) t ≡ true
    rest t h =
        has-filter (λ y. not (segment_is x y)) ys t
        ∙ (λ i. into t (or_right (segment_is t x) h) i && other t h (segment_is x t) refl i)

pairs-most : (k n : ℕ) → k ≤ n → pair_count k ≤ pair_count n
pairs-most k n l =
    let e : n ≡ (n - k) + k = omega (arith, l) in
    omega (arith, pairs-mono k (n - k), ap pair_count e)

-- fewer added segments take no more tests
pub tests_among : (times : Segment → Box → ℕ) (ss xs ys : List Segment) → AreSingle xs
    → ((t : Segment) → has xs t ≡ true → has ys t ≡ true)
    → most_tests times ss xs ≤ most_tests times ss ys
tests_among times ss xs ys single into =
    let fewer : length xs ≤ length ys = omega (arith, sum_among (λ _. 1) xs ys single into, ones xs, ones ys) in
    omega (arith, sum_among (most_given times ss) xs ys single into, pairs-most (length xs) (length ys) fewer)
