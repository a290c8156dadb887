-- Rounding by a quotient.
use mir.Syntax.{w64, w128}
use mir.Val.{SFits, of_z, to_z}
use Rattle.kit_words.proofs.Common.{◌≡◌, ℕ, ◌+◌, ◌-◌, ◌*◌, ◌<◌, ◌≤◌, ◌^◌, refl, ap, ap₂, sym, ◌∙◌, arith, ℤ, pos}
use Rattle.kit_words.proofs.Common.{negsuc, ◌+ℤ◌, ◌*ℤ◌, unsigned_abs, int_div_euclid, ints, div_below, pow-add}
use Rattle.kit_words.proofs.Common.{le_of_mul-le-mul_right}
use Rattle.decimal_texts.specs.Common.{rounded}
use Rattle.decimal_texts.proofs.Powers.{power_pos, scaled_grows, power_mono}

-- the two powers together are 10^24
powers : (k : ℕ) → k ≤ 24 → 10 ^ k * 10 ^ (24 - k) ≡ 10 ^ 24
powers k h =
    let whole : k + (24 - k) ≡ 24 = omega arith in
    sym (pow-add 10 k (24 - k)) ∙ ap (λ j. 10 ^ j) whole

-- units whose rounded number is small enough
within : (k n : ℕ) → k ≤ 24 → n * 10 ^ k ≤ 10 ^ 36 → n ≤ 10 ^ 12 * 10 ^ (24 - k)
within k n h le =
    let more : n * 10 ^ k ≤ (10 ^ 12 * 10 ^ (24 - k)) * 10 ^ k = omega (arith, powers k h) in
    le_of_mul-le-mul_right more (power_pos k)

-- a number whose quotient is within m
abbrev InRange : ℤ → ℕ → ℕ → Type 0
InRange (pos a) b m = a < (m + 1) * b
InRange (negsuc a) b m = a < m * b

pub quotient_within : (w : ℤ) (b m : ℕ) → 0 < b → InRange w b m → unsigned_abs (int_div_euclid w (pos b)) ≤ m
quotient_within (pos a) b m h r = omega (arith, div_below a b (m + 1) h r)
quotient_within (negsuc a) b m h r = omega (arith, div_below a b m h r)

pub in_range : (w z : ℤ) (u m : ℕ) → w ≡ pos 2 *ℤ z +ℤ pos u → 0 < u → unsigned_abs z ≤ m * u → InRange w (2 * u) m
in_range (pos a) (pos n) u m e p h = omega (arith, ints)
in_range (pos a) (negsuc n) u m e p h = omega (arith, ints)
in_range (negsuc a) (pos n) u m e p h = omega (arith, ints)
in_range (negsuc a) (negsuc n) u m e p h = omega (arith, ints)

pub rounded_within : (k : ℕ) (z : ℤ) → k ≤ 24 → unsigned_abs z * 10 ^ k ≤ 10 ^ 36 → unsigned_abs (rounded k z) ≤ 10 ^ 12
rounded_within k z h le =
    let u = 10 ^ (24 - k) in
    let p : 0 < 10 ^ (24 - k) = power_pos (24 - k) in
    let q : 0 < 2 * 10 ^ (24 - k) = omega arith in
    quotient_within (pos 2 *ℤ z +ℤ pos u) (2 * u) (10 ^ 12) q
    (in_range (pos 2 *ℤ z +ℤ pos u) z u (10 ^ 12) refl p (within k (unsigned_abs z) h le))

-- ---- what the code computes: no width cuts it off

pub small_units : (k : ℕ) (z : ℤ) → unsigned_abs z * 10 ^ k ≤ 10 ^ 36 → unsigned_abs z ≤ 10 ^ 36
small_units k z le = omega (arith, scaled_grows (unsigned_abs z) k)

pub doubled_fits : (z : ℤ) → unsigned_abs z ≤ 10 ^ 36 → SFits w128 (pos 2 *ℤ to_z w128 (of_z w128 z))
doubled_fits (pos n) h = omega (arith, ints)
doubled_fits (negsuc n) h = omega (arith, ints)

pub sum_fits : (z : ℤ) (u : ℕ) → unsigned_abs z ≤ 10 ^ 36 → u ≤ 10 ^ 24 → SFits w128 (to_z w128 (of_z w128 (pos 2 *ℤ to_z w128 (of_z w128 z))) +ℤ to_z w128 u)
sum_fits (pos n) u h le = omega (arith, ints)
sum_fits (negsuc n) u h le = omega (arith, ints)

sum_is : (z : ℤ) (u : ℕ) → unsigned_abs z ≤ 10 ^ 36 → u ≤ 10 ^ 24 → to_z w128 (of_z w128 (to_z w128 (of_z w128 (pos 2 *ℤ to_z w128 (of_z w128 z))) +ℤ to_z w128 u)) ≡ pos 2 *ℤ z +ℤ pos u
sum_is (pos n) u h le = omega (arith, ints)
sum_is (negsuc n) u h le = omega (arith, ints)

pub twice_is : (u : ℕ) → u ≤ 10 ^ 24 → to_z w128 (of_z w128 (pos 2 *ℤ to_z w128 u)) ≡ pos (2 * u)
twice_is u le = omega (arith, ints)

pub quotient_is : (k u : ℕ) (z q : ℤ) → u ≡ 10 ^ (24 - k) → u ≤ 10 ^ 24 → unsigned_abs z * 10 ^ k ≤ 10 ^ 36
    → q ≡ int_div_euclid (to_z w128 (of_z w128 (to_z w128 (of_z w128 (pos 2 *ℤ to_z w128 (of_z w128 z))) +ℤ to_z w128 u))) (to_z w128 (of_z w128 (pos 2 *ℤ to_z w128 u)))
    → q ≡ rounded k z
quotient_is k u z q e low le h =
    h ∙ (ap₂ int_div_euclid (sum_is z u (small_units k z le) low) (twice_is u low)
    ∙ ap (λ v. int_div_euclid (pos 2 *ℤ z +ℤ pos v) (pos (2 * v))) e)

pub cast_fits : (q : ℤ) → unsigned_abs q ≤ 10 ^ 12 → SFits w64 (to_z w128 (of_z w128 q))
cast_fits (pos n) h = omega (arith, ints)
cast_fits (negsuc n) h = omega (arith, ints)

pub cast_is : (q : ℤ) → unsigned_abs q ≤ 10 ^ 12 → to_z w64 (of_z w64 (to_z w128 (of_z w128 q))) ≡ q
cast_is (pos n) h = omega (arith, ints)
cast_is (negsuc n) h = omega (arith, ints)

pub small_fits : (z : ℤ) → unsigned_abs z ≤ 10 ^ 12 → SFits w64 z
small_fits (pos n) h = omega (arith, ints)
small_fits (negsuc n) h = omega (arith, ints)

pub scale_fits : (finer s : ℕ) → finer ≤ 12 → s ≡ 10 ^ finer → s ≤ 10 ^ 12
scale_fits finer s f e = omega (arith, power_mono finer 12 f, e)
