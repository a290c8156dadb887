-- A quotient that is rounded up is at most w where the number is at most w times the divisor.
use Rattle.kit_words.proofs.Common.{ℕ, ◌+◌, ◌-◌, ◌*◌, ◌/◌, ◌<◌, ◌≤◌, ◌↔◌, ℤ, pos, negsuc, ◌*ℤ◌, ◌≤ℤ◌, inl, inr, arith, ints, cases_lt, mul-le-mul_left}
use Rattle.layer_faces.specs.Lengths.{width_of}

rounded_up : (a l w : ℕ) → 0 < l → ((a + (l - 1)) / l ≤ w) ↔ (a ≤ w * l)
rounded_up a l w some = (
  λ h. let grows = mul-le-mul_left {m = (a + (l - 1)) / l} {n = w} l h in omega arith,
  λ h. elim (cases_lt w ((a + (l - 1)) / l)) [
    | inl over ↦ let grows = mul-le-mul_left {m = w + 1} {n = (a + (l - 1)) / l} l (omega arith) in absurd (omega arith)
    | inr fits ↦ fits
  ],
)

pub width_within : (z : ℤ) (l w : ℕ) → 0 < l → (width_of z l ≤ w) ↔ ((pos 65536 *ℤ z) ≤ℤ pos (w * l))
width_within (pos a) l w some =
    let both = rounded_up (65536 * a) l w some in (λ h. let e = both.0 h in omega (arith, ints), λ h. both.1 (omega (arith, ints)))
width_within (negsuc a) l w some = (λ h. omega (arith, ints), λ h. omega arith)
