-- Decimals, worked out.
use Rattle.kit_words.proofs.Common.{refl, ◌≡◌, ℕ, ℤ, pos, ◌*◌, ◌^◌, List, Option, Some, None, option_map, codes, true}
use Rattle.kit_words.proofs.Common.{false, digits}
use Rattle.json_spans.specs.Common.{value_from}
use Rattle.json_spans.specs.Whole.{minus}
use Rattle.decimal_texts.specs.Common.{parts_of, fine, zeros_behind, decimals, rounded, is_rounded, shifted_text}

-- ---- units

abbrev units_of : List ℕ → Option ℤ
units_of text = option_map fine (parts_of text)

one_and_a_half : units_of (codes "1.5") ≡ Some (pos (15 * 10 ^ 23))
unfolding value_from
one_and_a_half = refl

less_than_zero : units_of (codes "-0.25") ≡ Some (minus (25 * 10 ^ 22))
unfolding value_from
less_than_zero = refl

point_moved_down : units_of (codes "0.1e-3") ≡ Some (pos (10 ^ 20))
unfolding value_from
point_moved_down = refl

point_moved_up : units_of (codes "1e2") ≡ Some (pos (10 ^ 26))
unfolding value_from
point_moved_up = refl

-- rounded down, and so away from 0
below_a_unit : units_of (codes "-5e-30") ≡ Some (minus 1)
unfolding value_from
below_a_unit = refl

above_zero : units_of (codes "5e-30") ≡ Some (pos 0)
unfolding value_from
above_zero = refl

longest : units_of (codes "123456789012.000000000000000000000001") ≡ Some (pos 123456789012000000000000000000000001)
unfolding value_from
longest = refl

-- an exponent of four digits, and what is no number
long_exponent : parts_of (codes "1e1000") ≡ None
unfolding value_from
long_exponent = refl

no_fraction : parts_of (codes "1.") ≡ None
no_fraction = refl

-- ---- fewer decimals

one_decimal : decimals (pos (15 * 10 ^ 23)) ≡ 1
unfolding zeros_behind
one_decimal = refl

no_decimal : decimals (pos 0) ≡ 0
unfolding zeros_behind
no_decimal = refl

half_up : rounded 0 (pos (5 * 10 ^ 23)) ≡ pos 1
half_up = refl

half_below_zero : rounded 0 (minus (5 * 10 ^ 23)) ≡ pos 0
half_below_zero = refl

three_halves : rounded 0 (pos (15 * 10 ^ 23)) ≡ pos 2
three_halves = refl

three_halves_below_zero : rounded 0 (minus (15 * 10 ^ 23)) ≡ minus 1
three_halves_below_zero = refl

changed : is_rounded 0 (pos (15 * 10 ^ 23)) ≡ true
changed = refl

kept : is_rounded 1 (pos (15 * 10 ^ 23)) ≡ false
kept = refl

-- ---- texts

abbrev shifted : ℕ → List ℕ → Option (List ℕ)
shifted k text = option_map (shifted_text k) (parts_of text)

ten_thousandth : shifted 1 (codes "0.0001") ≡ Some (codes "1e-5")
unfolding value_from digits
ten_thousandth = refl

with_an_exponent : shifted 1 (codes "2.5e-3") ≡ Some (codes "25e-5")
unfolding value_from digits
with_an_exponent = refl

nothing : shifted 1 (codes "0") ≡ Some (codes "0e-1")
unfolding value_from digits
nothing = refl
