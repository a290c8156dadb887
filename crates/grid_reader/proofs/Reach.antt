-- How far a coordinate may be from 0.
use mir.Syntax.{w128}
use mir.Val.{SFits}
use Rattle.kit_words.proofs.Common.{◌≡◌, ℕ, ◌-◌, ◌<◌, ◌≤◌, ◌^◌, false, arith, ℤ, pos, negsuc, ◌+ℤ◌, unsigned_abs, ints}
use Rattle.kit_words.proofs.Common.{lt-leb}
use Rattle.decimal_texts.proofs.Common.{power_mono}
use Rattle.grid_reader.specs.Common.{fits_finer_grid}

pub power_fits : (finer : ℕ) → 10 ^ (36 - finer) ≤ 10 ^ 36
power_fits finer = power_mono (36 - finer) 36 (omega arith)

sum_far : (x y : ℤ) → unsigned_abs x ≤ 10 ^ 36 → 10 ^ 37 ≤ unsigned_abs y → 10 ^ 36 < unsigned_abs (x +ℤ y)
sum_far (pos m) (pos n) h k = omega (arith, ints)
sum_far (pos m) (negsuc n) h k = omega (arith, ints)
sum_far (negsuc m) (pos n) h k = omega (arith, ints)
sum_far (negsuc m) (negsuc n) h k = omega (arith, ints)

pub beyond_reach : (finer : ℕ) (before z : ℤ) → unsigned_abs before ≤ 10 ^ 36 → 10 ^ 37 ≤ unsigned_abs z → fits_finer_grid finer (before +ℤ z) ≡ false
beyond_reach finer before z h k = lt-leb (unsigned_abs (before +ℤ z)) (10 ^ (36 - finer)) (omega (arith, sum_far before z h k, power_fits finer))

pub near_fits : (z : ℤ) → unsigned_abs z ≤ 10 ^ 36 → SFits w128 z
near_fits (pos n) h = omega (arith, ints)
near_fits (negsuc n) h = omega (arith, ints)
