-- Products of whole numbers, as the code has them.
use mir.Syntax.{w64}
use mir.Val.{to_z, of_z}
use Rattle.kit_words.proofs.Common.{◌≡◌, ℕ, ℤ, pos, negsuc, ◌*◌, ◌*ℤ◌, ◌≤◌, ◌≤ℤ◌, arith, ints, unsigned_abs, FitsSigned}
use Rattle.kit_words.proofs.Common.{fits_signed_mul, subst, sym, to_z-of_z, unsigned_abs-mul}
use Rattle.std.proofs.Common.{mul-le-mul}
use Rattle.std.proofs.lemmas.Int.{fits_signed_from_abs}

-- a product of small numbers
pub product_fits : (a b : ℤ) → unsigned_abs a ≤ 9000000000000 → unsigned_abs b ≤ 96000 → FitsSigned w64 (a *ℤ b)
product_fits a b h k = fits_signed_mul w64 a b 9000000000000 96000 h k (omega arith)

pub product_small : (a b : ℤ) → unsigned_abs a ≤ 9000000000000 → unsigned_abs b ≤ 96000 → unsigned_abs (a *ℤ b) ≤ 900000000000000000
product_small a b h k = omega (arith, unsigned_abs-mul a b, mul-le-mul h k)

-- what the code's product is
pub product_is : (a b : ℤ) → FitsSigned w64 a → FitsSigned w64 b → unsigned_abs a ≤ 9000000000000 → unsigned_abs b ≤ 96000
    → to_z w64 (of_z w64 (to_z w64 (of_z w64 a) *ℤ to_z w64 (of_z w64 b))) ≡ a *ℤ b
product_is a b f g h k = let both = product_fits a b h k in simp to_z-of_z

-- a size in pixels, in parts of a pixel
pub in_parts : (size parts : ℤ) (most : ℕ) → pos 1 ≤ℤ size → size ≤ℤ pos most → pos 1 ≤ℤ parts → parts ≤ℤ pos 100
    → (pos 1 ≤ℤ (size *ℤ parts)) × ((size *ℤ parts) ≤ℤ pos (most * 100))
in_parts (pos n) (pos k) most h i j l =
    let wide : 1 ≤ n = omega (arith, ints, h) in
    let fine : 1 ≤ k = omega (arith, ints, j) in
    let narrow : n ≤ most = omega (arith, ints, i) in
    let coarse : k ≤ 100 = omega (arith, ints, l) in
    let least : 1 * 1 ≤ n * k = mul-le-mul wide fine in
    let greatest : n * k ≤ most * 100 = mul-le-mul narrow coarse in
    (omega (arith, ints, least), omega (arith, ints, greatest))
in_parts (negsuc n) parts most h i j l = absurd (omega (arith, ints, h))
in_parts (pos n) (negsuc k) most h i j l = absurd (omega (arith, ints, j))

-- a small size
pub small_abs : (z : ℤ) (most : ℕ) → pos 1 ≤ℤ z → z ≤ℤ pos most → unsigned_abs z ≤ most
small_abs (pos n) most h i = omega (arith, ints, i)
small_abs (negsuc n) most h i = absurd (omega (arith, ints, h))

pub small_fits : (z : ℤ) (most : ℕ) → most ≤ 960 → pos 1 ≤ℤ z → z ≤ℤ pos most → FitsSigned w64 z
small_fits z most k h i = fits_signed_from_abs w64 z (omega (arith, small_abs z most h i, k))

-- what the code's product of them is
pub size_in_parts : (size parts : ℤ) (most : ℕ) → most ≤ 960 → (pos 1 ≤ℤ size) × (size ≤ℤ pos most) → (pos 1 ≤ℤ parts) × (parts ≤ℤ pos 100)
    → (pos 1 ≤ℤ to_z w64 (of_z w64 (to_z w64 (of_z w64 size) *ℤ to_z w64 (of_z w64 parts))))
    × (to_z w64 (of_z w64 (to_z w64 (of_z w64 size) *ℤ to_z w64 (of_z w64 parts))) ≤ℤ pos (most * 100))
size_in_parts size parts most small (h, i) (j, l) =
    let wide : unsigned_abs size ≤ 9000000000000 = omega (arith, small_abs size most h i, small) in
    let fine : unsigned_abs parts ≤ 96000 = omega (arith, small_abs parts 100 j l) in
    let same = product_is size parts (small_fits size most small h i) (small_fits parts 100 (omega arith) j l) wide fine in
    subst (λ (z : ℤ). (pos 1 ≤ℤ z) × (z ≤ℤ pos (most * 100))) (sym same) (in_parts size parts most h i j l)
