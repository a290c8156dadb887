-- The power of ten after a number: no width cuts it off.
use mir.Syntax.{w64, w128}
use mir.Val.{of_z, to_z}
use Rattle.kit_words.proofs.Common.{◌≡◌, ℕ, List, ◌++◌, ◌<◌, ◌≤◌, ◌^◌, ap, ◌∙◌, arith, ℤ, pos, negsuc, ◌-ℤ◌}
use Rattle.kit_words.proofs.Common.{unsigned_abs, codes, signed_decimal, ints}

exponent_is : (z : ℤ) → unsigned_abs z < 1000 → to_z w64 (of_z w64 z) ≡ z
exponent_is (pos n) h = omega (arith, ints)
exponent_is (negsuc n) h = omega (arith, ints)

less_is : (z : ℤ) (m n : ℕ) → unsigned_abs z < 1000 → m < 2 ^ 64 → n ≤ 36
    → to_z w128 (of_z w128 (to_z w128 (of_z w128 (to_z w128 (of_z w128 z) -ℤ to_z w128 m)) -ℤ to_z w128 n)) ≡ (z -ℤ pos m) -ℤ pos n
less_is (pos a) m n h f g = omega (arith, ints)
less_is (negsuc a) m n h f g = omega (arith, ints)

power_is : (z r : ℤ) (m n : ℕ) → r ≡ to_z w64 (of_z w64 z) → unsigned_abs z < 1000 → m < 2 ^ 64 → n ≤ 36
    → to_z w128 (of_z w128 (to_z w128 (of_z w128 (to_z w128 (of_z w128 r) -ℤ to_z w128 m)) -ℤ to_z w128 n)) ≡ (z -ℤ pos m) -ℤ pos n
power_is z r m n e h f g =
    ap (λ y. to_z w128 (of_z w128 (to_z w128 (of_z w128 (to_z w128 (of_z w128 y) -ℤ to_z w128 m)) -ℤ to_z w128 n))) (e ∙ exponent_is z h) ∙ less_is z m n h f g

-- the text of what the code computes is that of the power
pub power_text : (z r : ℤ) (m n : ℕ) (old new : List ℕ) → r ≡ to_z w64 (of_z w64 z) → unsigned_abs z < 1000 → m < 2 ^ 64 → n ≤ 36
    → new ≡ old ++ (codes "e" ++ signed_decimal (to_z w128 (of_z w128 (to_z w128 (of_z w128 (to_z w128 (of_z w128 r) -ℤ to_z w128 m)) -ℤ to_z w128 n))))
    → new ≡ old ++ (codes "e" ++ signed_decimal ((z -ℤ pos m) -ℤ pos n))
power_text z r m n old new e h f g i = i ∙ ap (λ y. old ++ (codes "e" ++ signed_decimal y)) (power_is z r m n e h f g)
