-- Rounding by a quotient, and that no width cuts off what is computed.
use mir.Syntax.{w128}
use mir.Val.{SFits, of_z, to_z}
use Rattle.kit_words.proofs.Common.{◌≡◌, ℕ, ◌+◌, ◌-◌, ◌*◌, ◌/◌, ◌≤◌, ◌^◌, ap, ap₂, sym, ◌∙◌, arith, ℤ, pos}
use Rattle.kit_words.proofs.Common.{negsuc, ◌+ℤ◌, ◌*ℤ◌, unsigned_abs, int_div_euclid, ints}
use Rattle.grid_decimals.specs.Common.{nearest}

-- ---- the nearest

pub doubled_fits : (z : ℤ) → unsigned_abs z ≤ 2 * 10 ^ 37 → SFits w128 (pos 2 *ℤ to_z w128 (of_z w128 z))
doubled_fits (pos n) h = omega (arith, ints)
doubled_fits (negsuc n) h = omega (arith, ints)

pub sum_fits : (z : ℤ) (u : ℕ) → unsigned_abs z ≤ 2 * 10 ^ 37 → u ≤ 10 ^ 36 → SFits w128 (to_z w128 (of_z w128 (pos 2 *ℤ to_z w128 (of_z w128 z))) +ℤ to_z w128 u)
sum_fits (pos n) u h le = omega (arith, ints)
sum_fits (negsuc n) u h le = omega (arith, ints)

sum_is : (z : ℤ) (u : ℕ) → unsigned_abs z ≤ 2 * 10 ^ 37 → u ≤ 10 ^ 36 → to_z w128 (of_z w128 (to_z w128 (of_z w128 (pos 2 *ℤ to_z w128 (of_z w128 z))) +ℤ to_z w128 u)) ≡ pos 2 *ℤ z +ℤ pos u
sum_is (pos n) u h le = omega (arith, ints)
sum_is (negsuc n) u h le = omega (arith, ints)

pub twice_is : (u : ℕ) → u ≤ 10 ^ 36 → to_z w128 (of_z w128 (pos 2 *ℤ to_z w128 u)) ≡ pos (2 * u)
twice_is u le = omega (arith, ints)

pub quotient_is : (fewer u : ℕ) (z q : ℤ) → u ≡ 10 ^ fewer → u ≤ 10 ^ 36 → unsigned_abs z ≤ 2 * 10 ^ 37
    → q ≡ int_div_euclid (to_z w128 (of_z w128 (to_z w128 (of_z w128 (pos 2 *ℤ to_z w128 (of_z w128 z))) +ℤ to_z w128 u))) (to_z w128 (of_z w128 (pos 2 *ℤ to_z w128 u)))
    → (k : ℕ) → q ≡ nearest (k + fewer) k z
quotient_is fewer u z q e low le h k =
    let left : (k + fewer) - k ≡ fewer = omega arith in
    h ∙ (ap₂ int_div_euclid (sum_is z u le low) (twice_is u low)
    ∙ (ap (λ v. int_div_euclid (pos 2 *ℤ z +ℤ pos v) (pos (2 * v))) e
    ∙ ap (λ j. int_div_euclid (pos 2 *ℤ z +ℤ pos (10 ^ j)) (pos (2 * 10 ^ j))) (sym left)))

-- where no decimal is left out nothing is rounded
same_quotient : (z : ℤ) → z ≡ int_div_euclid (pos 2 *ℤ z +ℤ pos 1) (pos 2)
same_quotient (pos n) = omega (arith, ints)
same_quotient (negsuc n) =
    let odd : pos 2 *ℤ negsuc n +ℤ pos 1 ≡ negsuc (2 * n) = omega (arith, ints) in
    let half : n ≡ 2 * n / 2 = omega arith in
    ap negsuc half ∙ ap (λ w. int_div_euclid w (pos 2)) (sym odd)

pub nearest_same : (fewer : ℕ) (z : ℤ) → fewer ≡ 0 → (k : ℕ) → z ≡ nearest (k + fewer) k z
nearest_same fewer z e k =
    let left : 0 ≡ (k + fewer) - k = omega arith in
    same_quotient z ∙ ap (λ j. int_div_euclid (pos 2 *ℤ z +ℤ pos (10 ^ j)) (pos (2 * 10 ^ j))) left
