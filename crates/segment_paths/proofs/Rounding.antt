-- Quotients rounded to the nearest whole number.
use Rattle.kit_words.proofs.Common.{ℕ, ℤ, pos, ◌≡◌, ◌≤◌, ◌<◌, ◌+◌, ◌-◌, ◌*◌, ◌/◌, ◌+ℤ◌, ◌-ℤ◌, ◌*ℤ◌, ◌≤ℤ◌, ◌<ℤ◌, arith}
use Rattle.kit_words.proofs.Common.{unsigned_abs, ap, subst, sym, ◌∙◌, to_z, of_z, w64, neg_ℤ, int_le, true, false}
use Rattle.kit_words.proofs.Common.{mul-le-mul_left, ints}
use Rattle.grid_geometry.proofs.Common.{expand, assoc}
use Rattle.segment_paths.specs.Common.{IsRounded, IsRoundedBetween}

-- what a division says of its quotient
quotient_is : (m n : ℕ) → 0 < n → (n * (m / n) ≤ m) × (m < n * (m / n) + n)
quotient_is m n h = (omega arith, omega arith)

rounded_by : (m w z : ℕ) → 2 * w * z ≤ 2 * m + w → 2 * m + w < 2 * w * z + 2 * w → IsRounded (pos m) w (pos z)
rounded_by m w z low high = record {
  least = simp expand (omega (arith, ints));
  most = simp expand (omega (arith, ints));
}

pub quotient_rounded : (m w : ℕ) → 0 < w → IsRounded (pos m) w (pos ((2 * m + w) / (2 * w)))
quotient_rounded m w h =
    let k = quotient_is (2 * m + w) (2 * w) (omega arith) in
    rounded_by m w ((2 * m + w) / (2 * w)) k.0 k.1

past : (l p w z : ℕ) → 0 < w → p ≤ w → 2 * w * z ≤ 2 * (l * p) + w → l < z → 1 ≤ 0
past l p w z h k low more =
    let up : l * p ≤ l * w = mul-le-mul_left l k in
    let next : l + 1 ≤ z = omega arith in
    let all : 2 * w * (l + 1) ≤ 2 * w * z = mul-le-mul_left (2 * w) next in
    omega arith

at_most : (l z : ℕ) → (l < z → 1 ≤ 0) → z ≤ l
at_most l z never = grind arith

-- a part of a length is at most the length
pub part_bound : (l p w : ℕ) → 0 < w → p ≤ w → (2 * (l * p) + w) / (2 * w) ≤ l
part_bound l p w h k =
    let z = (2 * (l * p) + w) / (2 * w) in
    let low = (quotient_is (2 * (l * p) + w) (2 * w) (omega arith)).0 in
    at_most l z (past l p w z h k low)

-- a whole number more
pub shifted : (a m z : ℤ) (w : ℕ) → IsRounded m w z → IsRounded (a *ℤ pos w +ℤ m) w (a +ℤ z)
shifted a m z w r =
    let low = simp expand at r.least in
    let high = simp expand at r.most in
    record {
      least = simp expand (omega (arith, ints, assoc (pos 2) a (pos w), low));
      most = simp expand (omega (arith, ints, assoc (pos 2) a (pos w), high));
    }

from_lesser : (a b : ℤ) (l p w : ℕ) → b -ℤ a ≡ pos l → a *ℤ pos w +ℤ pos (l * p) ≡ a *ℤ pos w +ℤ (b -ℤ a) *ℤ pos p
from_lesser a b l p w e = rw e

turned : (b : ℤ) (l p k : ℕ)
    → b *ℤ pos (p + k) +ℤ pos (l * k) ≡ (b +ℤ pos l) *ℤ pos (p + k) +ℤ neg_ℤ (pos l) *ℤ pos p
turned b l p k = simp expand (omega (arith, ints))

from_greater : (a b : ℤ) (l p k : ℕ) → a ≡ b +ℤ pos l
    → b *ℤ pos (p + k) +ℤ pos (l * k) ≡ a *ℤ pos (p + k) +ℤ (b -ℤ a) *ℤ pos p
from_greater a b l p k e =
    let back : neg_ℤ (pos l) ≡ b -ℤ a = omega (arith, ints) in
    turned b l p k ∙ ap (λ v. v *ℤ pos (p + k) +ℤ neg_ℤ (pos l) *ℤ pos p) (sym e) ∙ ap (λ v. a *ℤ pos (p + k) +ℤ v *ℤ pos p) back

pub is_at_most : (a b : ℤ) → unsigned_abs a ≤ 1000000000000 → unsigned_abs b ≤ 1000000000000
    → int_le (to_z w64 (of_z w64 a)) (to_z w64 (of_z w64 b)) ≡ true → a ≤ℤ b
is_at_most a b ha hb h = grind (arith, ints)

pub is_more : (a b : ℤ) → unsigned_abs a ≤ 1000000000000 → unsigned_abs b ≤ 1000000000000
    → int_le (to_z w64 (of_z w64 a)) (to_z w64 (of_z w64 b)) ≡ false → b <ℤ a
is_more a b ha hb h = grind (arith, ints)

-- from the lesser of two numbers on
pub up_from : (a b : ℤ) (l p w r : ℕ) → a ≤ℤ b → unsigned_abs a ≤ 1000000000000 → unsigned_abs b ≤ 1000000000000
    → l ≡ unsigned_abs (to_z w64 (of_z w64 b) -ℤ to_z w64 (of_z w64 a)) → r ≤ l → IsRounded (pos (l * p)) w (pos r)
    → IsRoundedBetween a b p w (to_z w64 (of_z w64 (to_z w64 (of_z w64 a) +ℤ to_z w64 r)))
up_from a b l p w r h ha hb far hr k =
    let is : a +ℤ pos r ≡ to_z w64 (of_z w64 (to_z w64 (of_z w64 a) +ℤ to_z w64 r)) = omega (arith, ints) in
    let e : b -ℤ a ≡ pos l = omega (arith, ints) in
    subst (IsRoundedBetween a b p w) is
    (subst (λ m. IsRounded m w (a +ℤ pos r)) (from_lesser a b l p w e) (shifted a (pos (l * p)) (pos r) w k))

pub down_from : (a b : ℤ) (l p w r : ℕ) → b <ℤ a → p ≤ w → unsigned_abs a ≤ 1000000000000 → unsigned_abs b ≤ 1000000000000
    → l ≡ unsigned_abs (to_z w64 (of_z w64 a) -ℤ to_z w64 (of_z w64 b)) → r ≤ l → IsRounded (pos (l * (w - p))) w (pos r)
    → IsRoundedBetween a b p w (to_z w64 (of_z w64 (to_z w64 (of_z w64 b) +ℤ to_z w64 r)))
down_from a b l p w r h hp ha hb far hr k =
    let is : b +ℤ pos r ≡ to_z w64 (of_z w64 (to_z w64 (of_z w64 b) +ℤ to_z w64 r)) = omega (arith, ints) in
    let e : a ≡ b +ℤ pos l = omega (arith, ints) in
    let sum : p + (w - p) ≡ w = omega arith in
    let same = subst (λ v. b *ℤ pos v +ℤ pos (l * (w - p)) ≡ a *ℤ pos v +ℤ (b -ℤ a) *ℤ pos p) sum (from_greater a b l p (w - p) e) in
    subst (IsRoundedBetween a b p w) is
    (subst (λ m. IsRounded m w (b +ℤ pos r)) same (shifted b (pos (l * (w - p))) (pos r) w k))
