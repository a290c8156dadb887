-- Whole numbers.
use Rattle.std.specs.Prelude.{ℤ, ℕ, List, ◌++◌, codes}
use Rattle.std.specs.Fmt.{signed_decimal}

-- two numbers with a space between them
abbrev pub number_pair_text : ℤ → ℤ → List ℕ
number_pair_text x y = signed_decimal x ++ (codes " " ++ signed_decimal y)

-- an attribute whose value is a number, after a space
abbrev pub attribute_text : List ℕ → ℤ → List ℕ
attribute_text name value =
    codes " " ++ (name ++ (codes "=\"" ++ (signed_decimal value ++ codes "\"")))
