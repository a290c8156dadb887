-- Round lengths, as they are written.
use Rattle.std.specs.Prelude.{ℕ, ◌-◌, nat_le, if◌then◌else◌, List, [], ◌∷◌, ◌++◌, codes}
use Rattle.map_features.specs.Amounts.{grouped, zeros}
use Rattle.map_features.specs.declared.units.Unit.{Unit}
use Rattle.map_features.specs.declared.units.Unit.TheVariants.{Grid, Map, Degree}

-- what follows the number: the sign of degrees is U+00B0 in UTF-8
abbrev pub unit_words : Unit → List ℕ
unit_words Grid = codes " grid units"
unit_words Map = codes " units"
unit_words Degree = 194 ∷ 176 ∷ codes " of longitude"

-- a digit with so many zeros behind it, in the 10^24th parts of a unit
abbrev pub length_digits : ℕ → ℕ → List ℕ
length_digits digit count =
    if nat_le 24 count then grouped (digit ∷ zeros (count - 24)) else
    (codes "0." ++ (zeros (24 - count - 1) ++ digit ∷ []))
