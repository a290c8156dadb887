-- Powers of ten.
use Rattle.kit_words.proofs.Common.{◌≡◌, ℕ, ◌+◌, ◌*◌, ◌<◌, ◌≤◌, ◌^◌, ap, arith, pow_more, one-le-pow, pow-le-pow_right}
use Rattle.kit_words.proofs.Common.{mul-le-mul_left}

pub power_pos : (k : ℕ) → 0 < 10 ^ k
power_pos k = omega (arith, one-le-pow k 10 (omega arith))

pub power_mono : (j k : ℕ) → j ≤ k → 10 ^ j ≤ 10 ^ k
power_mono j k h = let ten : 0 < 10 = omega arith in pow-le-pow_right ten h

-- more zeros after a number make it no smaller
pub scaled_mono : (n j k : ℕ) → j ≤ k → n * 10 ^ j ≤ n * 10 ^ k
scaled_mono n j k h = mul-le-mul_left n (power_mono j k h)

pub scaled_grows : (n k : ℕ) → n ≤ n * 10 ^ k
scaled_grows n k = omega (arith, mul-le-mul_left n (power_pos k))

pub scaled_more : (n k : ℕ) → n * 10 ^ (k + 1) ≡ n * 10 ^ k * 10
scaled_more n k = omega (arith, ap (λ q. n * q) (pow_more 10 k))
