-- The digits of a number's exponent (RFC 8259, 6). Defined for any bytes.
use Rattle.std.specs.Prelude.{ℕ, List, [], ◌∷◌, if◌then◌else◌}
use Rattle.json_spans.specs.Common.{is_e, is_sign}

-- what follows the first e
abbrev pub behind_e : List ℕ → List ℕ
behind_e [] = []
behind_e (x ∷ xs) = if is_e x then xs else behind_e xs

abbrev pub without_sign : List ℕ → List ℕ
without_sign [] = []
without_sign (x ∷ xs) = if is_sign x then xs else x ∷ xs

-- what follows the e and its sign
abbrev pub exponent_digits : List ℕ → List ℕ
exponent_digits text = without_sign (behind_e text)
