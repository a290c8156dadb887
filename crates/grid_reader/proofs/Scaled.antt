-- Coordinates on a grid: by which powers of ten they are multiplied, and that they stay in range.
use mir.Syntax.{w64}
use mir.Val.{of_z, to_z}
use Rattle.kit_words.proofs.Common.{◌≡◌, ℕ, zero, suc, ◌+◌, ◌-◌, ◌*◌, ◌<◌, ◌≤◌, ◌^◌, refl, ap, ap₂, sym, ◌∙◌, arith, ℤ}
use Rattle.kit_words.proofs.Common.{pos, negsuc, ◌+ℤ◌, ◌*ℤ◌, unsigned_abs, ints, to_z-of_z, pow-add}
use Rattle.kit_words.proofs.Common.{le_of_mul-le-mul_right, mul-le-mul_right, mul_assoc, le-leb, lt-leb}
use Rattle.decimal_texts.specs.Common.{rounded}
use Rattle.decimal_texts.proofs.Common.{power_pos, small_fits}
use Rattle.decimal_texts.proofs.RoundedUnits.{in_range, quotient_within}
use Rattle.grid_reader.specs.Common.{fitting}

-- two powers of ten together are one
pub power_split : (m k : ℕ) → k ≤ m → 10 ^ (m - k) * 10 ^ k ≡ 10 ^ m
power_split m k h =
    let whole : (m - k) + k ≡ m = omega arith in
    sym (pow-add 10 (m - k) k) ∙ ap (λ j. 10 ^ j) whole

-- ---- how many decimals fit

fits_scaled : (m k far : ℕ) → k ≤ m → far ≤ 10 ^ (m - k) → far * 10 ^ k ≤ 10 ^ m
fits_scaled m k far h le = omega (arith, mul-le-mul_right (10 ^ k) le, power_split m k h)

exceeds_scaled : (m k far : ℕ) → k ≤ m → 10 ^ (m - k) < far → 10 ^ m < far * 10 ^ k
exceeds_scaled m k far h lt =
    let more : 10 ^ (m - k) + 1 ≤ far = omega arith in
    omega (arith, mul-le-mul_right (10 ^ k) more, power_split m k h, power_pos k)

pub keeps : (finer far kept : ℕ) → finer ≤ 12 → kept ≤ 24 → far ≤ 10 ^ (36 - finer - kept) → fitting finer far kept ≡ kept
unfolding fitting
keeps finer far zero h few le = refl
keeps finer far (suc k) h few le = rw (le-leb (far * 10 ^ suc k) (10 ^ (36 - finer)) (fits_scaled (36 - finer) (suc k) far (omega arith) le)) refl

pub drops : (finer far kept : ℕ) → finer ≤ 12 → kept ≤ 24 → 0 < kept → 10 ^ (36 - finer - kept) < far → fitting finer far (kept - 1) ≡ fitting finer far kept
unfolding fitting
drops finer far zero h few some lt = absurd (omega (arith, some))
drops finer far (suc k) h few some lt =
    let less : suc k - 1 ≡ k = omega arith in
    ap (λ j. fitting finer far j) less ∙ sym (rw (lt-leb (far * 10 ^ suc k) (10 ^ (36 - finer)) (exceeds_scaled (36 - finer) (suc k) far (omega arith) lt)) refl)

pub none : (finer far kept : ℕ) → kept ≡ 0 → fitting finer far kept ≡ kept
unfolding fitting
none finer far kept e = ap (λ j. fitting finer far j) e ∙ sym e

-- ---- a rounded number, multiplied again

-- units whose rounded number is small enough
few_units : (digits finer n : ℕ) → digits ≤ 24 → finer ≤ 12 → n * 10 ^ digits ≤ 10 ^ (36 - finer) → n ≤ 10 ^ (12 - finer) * 10 ^ (24 - digits)
few_units digits finer n h f near =
    let whole : (36 - finer) - 24 ≡ 12 - finer = omega arith in
    let all : (10 ^ (12 - finer) * 10 ^ (24 - digits)) * 10 ^ digits ≡ 10 ^ (36 - finer) =
    mul_assoc (10 ^ (12 - finer)) (10 ^ (24 - digits)) (10 ^ digits)
    ∙ ap (λ q. 10 ^ (12 - finer) * q) (power_split 24 digits h)
    ∙ (ap (λ j. 10 ^ j * 10 ^ 24) (sym whole) ∙ power_split (36 - finer) 24 (omega arith)) in
    let more : n * 10 ^ digits ≤ (10 ^ (12 - finer) * 10 ^ (24 - digits)) * 10 ^ digits = omega arith in
    le_of_mul-le-mul_right more (power_pos digits)

rounded_near : (digits finer : ℕ) (z : ℤ) → digits ≤ 24 → finer ≤ 12 → unsigned_abs z * 10 ^ digits ≤ 10 ^ (36 - finer) → unsigned_abs (rounded digits z) ≤ 10 ^ (12 - finer)
rounded_near digits finer z h f near =
    let u = 10 ^ (24 - digits) in
    let p : 0 < 10 ^ (24 - digits) = power_pos (24 - digits) in
    let q : 0 < 2 * 10 ^ (24 - digits) = omega arith in
    quotient_within (pos 2 *ℤ z +ℤ pos u) (2 * u) (10 ^ (12 - finer)) q
    (in_range (pos 2 *ℤ z +ℤ pos u) z u (10 ^ (12 - finer)) refl p (few_units digits finer (unsigned_abs z) h f near))

product_within : (r : ℤ) (s m : ℕ) → unsigned_abs r ≤ m → m * s ≡ 10 ^ 12 → unsigned_abs (r *ℤ pos s) ≤ 10 ^ 12
product_within (pos n) s m h e = omega (arith, ints, mul-le-mul_right s h)
product_within (negsuc n) s m h e = omega (arith, ints, mul-le-mul_right s h)

pub axis_within : (digits finer s : ℕ) (z r : ℤ) → digits ≤ 24 → finer ≤ 12 → unsigned_abs z * 10 ^ digits ≤ 10 ^ (36 - finer) → r ≡ rounded digits z → s ≡ 10 ^ finer → unsigned_abs (r *ℤ pos s) ≤ 10 ^ 12
axis_within digits finer s z r h f near is e =
    product_within r s (10 ^ (12 - finer)) (rw is (rounded_near digits finer z h f near)) (ap (λ q. 10 ^ (12 - finer) * q) e ∙ power_split 12 finer f)

-- ---- what the code computes: no width cuts it off

factor_is : (s : ℕ) → s ≤ 10 ^ 12 → to_z w64 s ≡ pos s
factor_is s h = omega (arith, ints)

pub product_is : (r : ℤ) (s : ℕ) → unsigned_abs r ≤ 10 ^ 12 → s ≤ 10 ^ 12 → to_z w64 (of_z w64 r) *ℤ to_z w64 s ≡ r *ℤ pos s
product_is r s h k = ap₂ ◌*ℤ◌ (to_z-of_z w64 r (small_fits r h)) (factor_is s k)
