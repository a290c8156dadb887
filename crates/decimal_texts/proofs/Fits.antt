-- That no width cuts off what is computed of a coordinate.
use mir.Syntax.{w64, w128}
use mir.Val.{SFits, to_z, of_z}
use Rattle.kit_words.proofs.Common.{◌≡◌, ℕ, ◌+◌, ◌-◌, ◌*◌, ◌≤◌, ◌^◌, ap₂, ◌∙◌, arith, false, ℤ, pos, negsuc, ◌*ℤ◌}
use Rattle.kit_words.proofs.Common.{unsigned_abs, ints, to_z-of_z, fits_signed_mul, pow-add, mul-le-mul_right, lt-leb}
use Rattle.decimal_texts.proofs.Powers.{power_mono}
use Rattle.decimal_texts.proofs.RoundedUnits.{small_fits}
use Rattle.decimal_texts.specs.Common.{fits_grid}

pub power_fits : (digits finer : ℕ) → 10 ^ (36 - finer - digits) ≤ 10 ^ 36
power_fits digits finer = power_mono (36 - finer - digits) 36 (omega arith)

-- ---- rounding

pub scaled_fits : (digits finer n : ℕ) → digits ≤ 24 → finer ≤ 12 → n ≤ 10 ^ (36 - finer - digits) → n * 10 ^ digits ≤ 10 ^ 36
scaled_fits digits finer n h f le =
    let more : n * 10 ^ digits ≤ 10 ^ (36 - finer - digits) * 10 ^ digits = mul-le-mul_right (10 ^ digits) le in
    let joined : 10 ^ ((36 - finer - digits) + digits) ≡ 10 ^ (36 - finer - digits) * 10 ^ digits =
    pow-add 10 (36 - finer - digits) digits in
    let low : 10 ^ ((36 - finer - digits) + digits) ≤ 10 ^ 36 = power_mono ((36 - finer - digits) + digits) 36 (omega arith) in
    omega arith

-- ---- the finer grid

wide_fits : (r : ℤ) → unsigned_abs r ≤ 10 ^ 12 → SFits w128 r
wide_fits (pos n) h = omega (arith, ints)
wide_fits (negsuc n) h = omega (arith, ints)

scale_is : (s : ℕ) → s ≤ 10 ^ 12 → to_z w128 s ≡ pos s
scale_is s h = omega (arith, ints)

pub product_is : (r w : ℤ) (s : ℕ) → unsigned_abs r ≤ 10 ^ 12 → s ≤ 10 ^ 12 → w ≡ to_z w64 (of_z w64 r)
    → to_z w128 (of_z w128 w) *ℤ to_z w128 s ≡ r *ℤ pos s
product_is r w s h k e =
    let is : w ≡ r = e ∙ to_z-of_z w64 r (small_fits r h) in
    rw is (ap₂ ◌*ℤ◌ (to_z-of_z w128 r (wide_fits r h)) (scale_is s k))

pub product_fits : (r : ℤ) (s : ℕ) → unsigned_abs r ≤ 10 ^ 12 → s ≤ 10 ^ 12 → SFits w128 (r *ℤ pos s)
product_fits r s h k = fits_signed_mul w128 r (pos s) (10 ^ 12) (10 ^ 12) h k (omega arith)

-- ---- a number that is too long to read

pub beyond : (digits finer : ℕ) (z : ℤ) → 10 ^ 37 ≤ unsigned_abs z → fits_grid digits finer z ≡ false
beyond digits finer z h = lt-leb (unsigned_abs z) (10 ^ (36 - finer - digits)) (omega (arith, power_fits digits finer))
