-- Numbers, areas and names as they are written, worked out.
use Rattle.kit_words.proofs.Common.{◌≡◌, ◌^◌, refl, pos, negsuc, [], ◌∷◌, Some, None, codes, digits, arith, ints}
use Rattle.map_features.specs.Amounts.{grouped, half_text, percent_text, sign_of}
use Rattle.map_features.specs.Lengths.{length_digits}
use Rattle.map_features.specs.SquareUnits.{area_text, cut_often, number_text}
use Rattle.map_features.specs.Values.{cut_end, dots, shortened_text}
use Rattle.map_features.specs.declared.units.Unit.TheVariants.{Map}
use Rattle.map_features.specs.declared.units.Units.{Units}

three : grouped (codes "123") ≡ codes "123"
three = refl

seven : grouped (codes "1234567") ≡ codes "1,234,567"
seven = refl

odd : half_text 2469 ≡ codes "1,234.5"
unfolding digits
odd = refl

-- a third less, a half more, and more than nothing
less : percent_text (negsuc 0) (pos 3) ≡ codes "-33.33%"
unfolding digits
less = refl

more : percent_text (pos 1) (pos 2) ≡ codes "+50.00%"
unfolding digits
more = refl

new : percent_text (pos 5) (pos 0) ≡ []
new = refl

-- a character of two bytes is not cut
cut : shortened_text (97 ∷ 195 ∷ 164 ∷ []) 2 ≡ 97 ∷ dots
unfolding cut_end
cut = refl

kept : shortened_text (97 ∷ 195 ∷ 164 ∷ []) 3 ≡ 97 ∷ 195 ∷ 164 ∷ []
unfolding cut_end
kept = refl

-- where a unit of the grid is a tenth of one of the map
tenths : Units
tenths = record {
  unit = Map;
  across = pos (10 ^ 23);
  upward = pos (10 ^ 23);
  ratio = pos 10000;
  ratio_range = (omega (arith, ints), omega (arith, ints));
}

hundredths : area_text tenths (pos 2469) ≡ codes "12.345"
unfolding digits cut_often tenths
hundredths = refl

-- numbers that are large or near 0
thousands : number_text (record { digits = 12; power = pos 3 }) ≡ codes "12,000"
unfolding digits
thousands = refl

large : number_text (record { digits = 123; power = pos 10 }) ≡ codes "1.23e12"
unfolding digits
large = refl

small : number_text (record { digits = 12; power = negsuc 5 }) ≡ codes "0.000012"
unfolding digits
small = refl

-- 5,000 units, and half of one
thousand : length_digits 53 27 ≡ codes "5,000"
thousand = refl

half : length_digits 53 23 ≡ codes "0.5"
half = refl
