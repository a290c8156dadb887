-- Columns and rows grow with the coordinate.
use Rattle.kit_words.proofs.Common.{◌≡◌, ◌∙◌, ap, ℤ, pos, negsuc, ℕ, ◌≤◌, ◌<◌, ◌+◌, ◌/◌, ◌%◌, ◌^◌, ◌-ℤ◌, ◌≤ℤ◌, arith}
use Rattle.kit_words.proofs.Common.{w64, to_z, of_z, unsigned_abs, int_div_euclid, ints, le-div, pow_pos}
use Rattle.kit_words.proofs.Common.{div-mul-le_self}
use Rattle.segment_sets.specs.Common.{AreMonotone, clamped, line, lines_in}
use Rattle.segment_sets.specs.declared.region.Region.{Region}

div-mono : (size m n : ℕ) → 0 < size → m ≤ n → m / size ≤ n / size
div-mono size m n some h = le-div (m / size) n size some (omega (arith, h, div-mul-le_self m size))

clamped-mono : (side size : ℕ) (a b : ℤ) → 0 < size → a ≤ℤ b → clamped side (int_div_euclid a (pos size)) ≤ clamped side (int_div_euclid b (pos size))
clamped-mono side size (pos m) (pos n) some h = let q = div-mono size m n some (omega (arith, ints)) in omega (arith, q)
clamped-mono side size (pos m) (negsuc n) some h = absurd (omega (arith, ints))
clamped-mono side size (negsuc m) b some h = omega arith

pub line-mono : (side : ℕ) (first : ℤ) (size : ℕ) (a b : ℤ) → 0 < size → a ≤ℤ b → line side first size a ≤ line side first size b
unfolding line
line-mono side first size a b some h =
    let p : (a -ℤ first) ≤ℤ (b -ℤ first) = omega (arith, ints) in
    clamped-mono side size (a -ℤ first) (b -ℤ first) some p

distance_is : (x first : ℤ) → unsigned_abs x ≤ 1000000000000 → unsigned_abs first ≤ 1000000000000 → to_z w64 (of_z w64 (to_z w64 (of_z w64 x) -ℤ to_z w64 (of_z w64 first))) ≡ x -ℤ first
distance_is x first hx hf = omega (arith, ints)

pub line-is : (side : ℕ) (x first : ℤ) (size r : ℕ) → unsigned_abs x ≤ 1000000000000 → unsigned_abs first ≤ 1000000000000 → r ≡ clamped side (int_div_euclid (to_z w64 (of_z w64 (to_z w64 (of_z w64 x) -ℤ to_z w64 (of_z w64 first)))) (pos size)) → r ≡ line side first size x
unfolding line
line-is side x first size r hx hf e = e ∙ ap (λ z. clamped side (int_div_euclid z (pos size))) (distance_is x first hx hf)

-- lines that a box begins and ends in are in order
pub lines-ordered : (side : ℕ) (first a b : ℤ) (shift r q : ℕ) → r ≡ line side first (2 ^ shift) a → q ≡ line side first (2 ^ shift) b → a ≤ℤ b → r ≤ q + 1
lines-ordered side first a b shift r q e f h = omega (arith, e, f, line-mono side first (2 ^ shift) a b (pow_pos shift) h)

-- the only fact about columns and rows that a directory rests on
pub region-monotone : (r : Region) → AreMonotone (lines_in r)
region-monotone r = record {
  across = λ a b h. line-mono r.columns r.extent.x0 (2 ^ (r.wide % 64)) a b (pow_pos (r.wide % 64)) h;
  upward = λ a b h. line-mono r.rows r.extent.y0 (2 ^ (r.high % 64)) a b (pow_pos (r.high % 64)) h;
}
