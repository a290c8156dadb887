-- Coordinates along an axis: that no width cuts off what is computed, and which axes are taken.
use mir.Syntax.{w128}
use mir.Val.{SFits, of_z, to_z}
use Rattle.kit_words.proofs.Common.{◌≡◌, ℕ, zero, suc, ◌+◌, ◌*◌, ◌<◌, ◌≤◌, ◌^◌, refl, ap, ap₂, subst, sym, ◌∙◌, arith, ℤ, pos, negsuc}
use Rattle.kit_words.proofs.Common.{Bool, true, false, not, ◌&&◌, ◌==◌, nat_le, nat_tests, mul-le-mul}
use Rattle.kit_words.proofs.Common.{◌+ℤ◌, ◌*ℤ◌, unsigned_abs, unsigned_abs-mul, ints, to_z-of_z}
use Rattle.decimal_texts.specs.Common.{Parts}
use Rattle.grid_decimals.specs.Common.{AxisOf, coordinate_of, coordinate_text, fits_axis, nearest, number_text}
use Rattle.grid_decimals.specs.Common.{at_least_zero, axis_of, power_of, size_of, units_of}
use Rattle.grid_decimals.proofs.Powers.{scaled_grows}
use Rattle.grid_decimals.proofs.Units.{units_size}

-- ---- a product and a sum

pub wide_fits : (z : ℤ) → unsigned_abs z ≤ 2 * 10 ^ 37 → SFits w128 z
wide_fits (pos n) h = omega (arith, ints)
wide_fits (negsuc n) h = omega (arith, ints)

pub stays : (z : ℤ) → unsigned_abs z ≤ 2 * 10 ^ 37 → to_z w128 (of_z w128 z) ≡ z
stays z h = to_z-of_z w128 z (wide_fits z h)

product_within : (n s : ℤ) → unsigned_abs n ≤ 10 ^ 12 → unsigned_abs s ≤ 10 ^ 25 → unsigned_abs (n *ℤ s) ≤ 10 ^ 37
product_within n s h k = subst (λ m. m ≤ 10 ^ 37) (sym (unsigned_abs-mul n s)) (mul-le-mul h k)

sum_within : (w a b : ℤ) → w ≡ a +ℤ b → unsigned_abs a ≤ 10 ^ 37 → unsigned_abs b ≤ 10 ^ 37 → unsigned_abs w ≤ 2 * 10 ^ 37
sum_within (pos w) (pos a) (pos b) e h k = omega (arith, ints)
sum_within (pos w) (pos a) (negsuc b) e h k = omega (arith, ints)
sum_within (pos w) (negsuc a) (pos b) e h k = omega (arith, ints)
sum_within (pos w) (negsuc a) (negsuc b) e h k = omega (arith, ints)
sum_within (negsuc w) (pos a) (pos b) e h k = omega (arith, ints)
sum_within (negsuc w) (pos a) (negsuc b) e h k = omega (arith, ints)
sum_within (negsuc w) (negsuc a) (pos b) e h k = omega (arith, ints)
sum_within (negsuc w) (negsuc a) (negsuc b) e h k = omega (arith, ints)

pub coordinate_within : (a : AxisOf) (n : ℤ) → unsigned_abs n ≤ 10 ^ 12 → unsigned_abs a.scale ≤ 10 ^ 25
    → unsigned_abs a.translate ≤ 10 ^ 37 → unsigned_abs (coordinate_of a n) ≤ 2 * 10 ^ 37
coordinate_within a n h k l =
    sum_within (coordinate_of a n) (n *ℤ a.scale) a.translate refl (product_within n a.scale h k) l

pub coordinate_is : (a : AxisOf) (n r : ℤ) → r ≡ n → unsigned_abs n ≤ 10 ^ 12 → unsigned_abs a.scale ≤ 10 ^ 25
    → unsigned_abs a.translate ≤ 10 ^ 37
    → to_z w128 (of_z w128 (to_z w128 (of_z w128 (to_z w128 (of_z w128 r) *ℤ to_z w128 (of_z w128 a.scale))) +ℤ to_z w128 (of_z w128 a.translate)))
    ≡ coordinate_of a n
coordinate_is a n r e h k l =
    let number : to_z w128 (of_z w128 r) ≡ n = ap (λ z. to_z w128 (of_z w128 z)) e ∙ stays n (omega arith) in
    let scale : to_z w128 (of_z w128 a.scale) ≡ a.scale = stays a.scale (omega arith) in
    let translate : to_z w128 (of_z w128 a.translate) ≡ a.translate = stays a.translate (omega arith) in
    let product : to_z w128 (of_z w128 (n *ℤ a.scale)) ≡ n *ℤ a.scale = stays (n *ℤ a.scale) (omega (arith, product_within n a.scale h k)) in
    ap (λ z. to_z w128 (of_z w128 z)) (ap₂ ◌+ℤ◌ (ap (λ z. to_z w128 (of_z w128 z)) (ap₂ ◌*ℤ◌ number scale) ∙ product) translate)
    ∙ stays (coordinate_of a n) (coordinate_within a n h k l)

-- what is written of it
pub coordinate_written : (d k fewer : ℕ) (a : AxisOf) (n z q : ℤ) → k + fewer ≡ d → z ≡ coordinate_of a n
    → ((j : ℕ) → q ≡ nearest (j + fewer) j z) → number_text k q ≡ coordinate_text d k a n
coordinate_written d k fewer a n z q e f h =
    ap (number_text k) (h k ∙ (ap (λ m. nearest m k z) e ∙ ap (nearest d k) f))

-- ---- axes that are taken

abbrev fits_by : ℕ → ℕ → Bool
fits_by s t = not (s == 0) && (nat_le s (10 ^ 25) && nat_le t (10 ^ 37))

by_none : (s t : ℕ) → s ≡ 0 → fits_by s t ≡ false
by_none s t e = grind (arith, nat_tests)

by_scale : (s t : ℕ) → 10 ^ 25 < s → fits_by s t ≡ false
by_scale s t h = grind (arith, nat_tests)

by_translate : (s t : ℕ) → 10 ^ 37 < t → fits_by s t ≡ false
by_translate s t h = grind (arith, nat_tests)

by_both : (s t : ℕ) → 0 < s → s ≤ 10 ^ 25 → t ≤ 10 ^ 37 → fits_by s t ≡ true
by_both s t p h k = grind (arith, nat_tests)

pub no_scale : (a : AxisOf) → unsigned_abs a.scale ≡ 0 → fits_axis a ≡ false
no_scale a e = by_none (unsigned_abs a.scale) (unsigned_abs a.translate) e

pub large_scale : (a : AxisOf) (n : ℕ) → n ≡ unsigned_abs a.scale → 10 ^ 25 < n → fits_axis a ≡ false
large_scale a n e h = by_scale (unsigned_abs a.scale) (unsigned_abs a.translate) (subst (λ m. 10 ^ 25 < m) e h)

pub large_translate : (a : AxisOf) (n : ℕ) → n ≡ unsigned_abs a.translate → 10 ^ 37 < n → fits_axis a ≡ false
large_translate a n e h = by_translate (unsigned_abs a.scale) (unsigned_abs a.translate) (subst (λ m. 10 ^ 37 < m) e h)

pub fits_both : (a : AxisOf) (s t : ℕ) → s ≡ unsigned_abs a.scale → t ≡ unsigned_abs a.translate → 0 < unsigned_abs a.scale
    → s ≤ 10 ^ 25 → t ≤ 10 ^ 37 → fits_axis a ≡ true
fits_both a s t e f p h k =
    by_both (unsigned_abs a.scale) (unsigned_abs a.translate) p (subst (λ m. m ≤ 10 ^ 25) e h) (subst (λ m. m ≤ 10 ^ 37) f k)

-- ---- what the code tells of a number

pub size_is : (z y : ℤ) (n : ℕ) → SFits w128 z → n ≡ unsigned_abs (to_z w128 (of_z w128 z)) → z ≡ y → n ≡ unsigned_abs y
size_is z y n f e g = e ∙ (ap unsigned_abs (to_z-of_z w128 z f) ∙ ap unsigned_abs g)

pub no_size : (z y : ℤ) → SFits w128 z → of_z w128 z ≡ 0 → z ≡ y → unsigned_abs y ≡ 0
no_size z y f e g =
    sym (size_is z y (unsigned_abs (to_z w128 (of_z w128 z))) f refl g) ∙ ap (λ m. unsigned_abs (to_z w128 m)) e

pub some_size : (z y : ℤ) → (of_z w128 z ≡ 0 → ⊥) → z ≡ y → 0 < unsigned_abs y
some_size z (pos zero) h g = absurd (h (ap (of_z w128) g))
some_size z (pos (suc n)) h g = omega arith
some_size z (negsuc n) h g = omega arith

abbrev pub axis_from : ℤ → ℤ → AxisOf
axis_from s t = record { scale = s; translate = t }

pub same_axis : (d : ℕ) (p q : Parts) (s t : ℤ) → s ≡ units_of d p → t ≡ units_of d q → axis_from s t ≡ axis_of d p q
same_axis d p q s t e f = ap₂ axis_from e f

-- ---- digits that are too many

pub large_in_scale : (d : ℕ) (p q : Parts) → 10 ^ 37 < size_of p → fits_axis (axis_of d p q) ≡ false
large_in_scale d p q h =
    let more : 10 ^ 25 < size_of p * 10 ^ at_least_zero (pos d +ℤ power_of p) =
    omega (arith, scaled_grows (size_of p) (at_least_zero (pos d +ℤ power_of p))) in
    large_scale (axis_of d p q) (size_of p * 10 ^ at_least_zero (pos d +ℤ power_of p)) (sym (units_size d p)) more

pub large_in_translate : (d : ℕ) (p q : Parts) → 10 ^ 37 < size_of q → fits_axis (axis_of d p q) ≡ false
large_in_translate d p q h =
    let more : 10 ^ 37 < size_of q * 10 ^ at_least_zero (pos d +ℤ power_of q) =
    omega (arith, scaled_grows (size_of q) (at_least_zero (pos d +ℤ power_of q))) in
    large_translate (axis_of d p q) (size_of q * 10 ^ at_least_zero (pos d +ℤ power_of q)) (sym (units_size d q)) more
