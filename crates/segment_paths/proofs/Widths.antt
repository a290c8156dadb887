-- Sums and differences of two products of differences of coordinates.
use Rattle.kit_words.proofs.Common.{ℤ, ◌≡◌, ◌≤◌, ◌+ℤ◌, ◌-ℤ◌, arith, unsigned_abs, FitsSigned, to_z, of_z, w64, w128}
use Rattle.kit_words.proofs.Common.{ints}

pub difference_is : (u v : ℤ) → unsigned_abs u ≤ 4000000000000000000000000 → unsigned_abs v ≤ 4000000000000000000000000
    → unsigned_abs (to_z w128 (of_z w128 u) -ℤ to_z w128 (of_z w128 v)) ≡ unsigned_abs (u -ℤ v)
difference_is u v hu hv = omega (arith, ints)

pub difference_bound : (u v : ℤ) → unsigned_abs u ≤ 4000000000000000000000000 → unsigned_abs v ≤ 4000000000000000000000000
    → unsigned_abs (u -ℤ v) ≤ 8000000000000000000000000
difference_bound u v hu hv = omega (arith, ints)

pub sum_fits : (u v : ℤ) → unsigned_abs u ≤ 4000000000000000000000000 → unsigned_abs v ≤ 4000000000000000000000000
    → FitsSigned w128 (to_z w128 (of_z w128 u) +ℤ to_z w128 (of_z w128 v))
sum_fits u v hu hv = omega (arith, ints)

pub sum_is : (u v : ℤ) → unsigned_abs u ≤ 4000000000000000000000000 → unsigned_abs v ≤ 4000000000000000000000000
    → to_z w128 (of_z w128 (to_z w128 (of_z w128 u) +ℤ to_z w128 (of_z w128 v))) ≡ u +ℤ v
sum_is u v hu hv = omega (arith, ints)

-- the bits of a number that fits are the number
pub narrow_is : (u : ℤ) → unsigned_abs u ≤ 2000000000000 → to_z w64 (of_z w64 u) ≡ u
narrow_is u h = omega (arith, ints)
