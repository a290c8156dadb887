-- The lesser and the greater of two coordinates, as the code has them.
use Rattle.kit_words.proofs.Common.{◌≡◌, ◌≤◌, ◌≤ℤ◌, ℤ, w64, to_z, of_z, unsigned_abs, arith, ints, clamps, int_min, int_max}

pub record IsLesser (r a b : ℤ) : Type 0 where
  pub first : r ≤ℤ a
  pub second : r ≤ℤ b
  pub range : unsigned_abs r ≤ 1000000000000

pub record IsGreater (r a b : ℤ) : Type 0 where
  pub first : a ≤ℤ r
  pub second : b ≤ℤ r
  pub range : unsigned_abs r ≤ 1000000000000

pub lesser : (r a b : ℤ) → r ≡ int_min (to_z w64 (of_z w64 a)) (to_z w64 (of_z w64 b)) → unsigned_abs a ≤ 1000000000000 → unsigned_abs b ≤ 1000000000000
    → IsLesser r a b
lesser r a b e h k = record { first = omega (arith, ints, clamps); second = omega (arith, ints, clamps); range = omega (arith, ints, clamps) }

pub greater : (r a b : ℤ) → r ≡ int_max (to_z w64 (of_z w64 a)) (to_z w64 (of_z w64 b)) → unsigned_abs a ≤ 1000000000000 → unsigned_abs b ≤ 1000000000000
    → IsGreater r a b
greater r a b e h k = record { first = omega (arith, ints, clamps); second = omega (arith, ints, clamps); range = omega (arith, ints, clamps) }
