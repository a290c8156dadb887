-- The lesser and the greater of coordinates, also as the code computes them.
use Rattle.kit_words.proofs.Common.{◌≡◌, ◌≤◌, ℤ, true, ◌&&◌, int_le, w64, to_z, of_z, unsigned_abs, arith, int_min}
use Rattle.kit_words.proofs.Common.{int_max, ints}

pub min_right : (a b c : ℤ) → int_le b c ≡ true → int_le (int_min a b) c ≡ true
min_right a b c h = grind (arith, ints)

pub max_right : (a b c : ℤ) → int_le c b ≡ true → int_le c (int_max a b) ≡ true
max_right a b c h = grind (arith, ints)

-- where the least and the greatest of three are one, so are all of them
pub all_one : (a b c : ℤ) → int_min (int_min a b) c ≡ int_max (int_max a b) c → (int_le (int_min a b) c && int_le c (int_max a b)) ≡ true
all_one a b c h = grind (arith, ints)

-- ---- in range

wrapped : (r z : ℤ) → r ≡ z → unsigned_abs z ≤ 1000000000000 → to_z w64 (of_z w64 r) ≡ z
wrapped r z e h = omega (arith, ints, e, h)

min_range : (a b : ℤ) → unsigned_abs a ≤ 1000000000000 → unsigned_abs b ≤ 1000000000000 → unsigned_abs (int_min a b) ≤ 1000000000000
min_range a b h k = grind (arith, ints)

max_range : (a b : ℤ) → unsigned_abs a ≤ 1000000000000 → unsigned_abs b ≤ 1000000000000 → unsigned_abs (int_max a b) ≤ 1000000000000
max_range a b h k = grind (arith, ints)

pub lesser_fits : (r u v a b : ℤ) → r ≡ int_min (to_z w64 (of_z w64 u)) (to_z w64 (of_z w64 v))
    → u ≡ a → v ≡ b → unsigned_abs a ≤ 1000000000000 → unsigned_abs b ≤ 1000000000000 → unsigned_abs (to_z w64 (of_z w64 r)) ≤ 1000000000000
lesser_fits r u v a b e p q h k =
    let is : r ≡ int_min a b = rw (← wrapped u a p h, ← wrapped v b q k) e in
    rw (wrapped r (int_min a b) is (min_range a b h k)) (min_range a b h k)

pub greater_fits : (r u v a b : ℤ) → r ≡ int_max (to_z w64 (of_z w64 u)) (to_z w64 (of_z w64 v))
    → u ≡ a → v ≡ b → unsigned_abs a ≤ 1000000000000 → unsigned_abs b ≤ 1000000000000 → unsigned_abs (to_z w64 (of_z w64 r)) ≤ 1000000000000
greater_fits r u v a b e p q h k =
    let is : r ≡ int_max a b = rw (← wrapped u a p h, ← wrapped v b q k) e in
    rw (wrapped r (int_max a b) is (max_range a b h k)) (max_range a b h k)
