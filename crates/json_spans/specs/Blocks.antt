-- Bytes of a part that are passed over together.
use Rattle.std.specs.Prelude.{ℕ, ◌%◌, Bool, true, false, not, ◌==◌, ◌||◌}
use Rattle.json_spans.specs.Parts.{opens, closes}
use Rattle.json_spans.specs.declared.parts.Skip.{Skip}
use Rattle.json_spans.specs.declared.parts.Skip.TheVariants.{Plain, Quoted, Escaped}

-- a bracket or a backslash, or the bar, which stands among them
abbrev pub is_stop : ℕ → Bool
is_stop x = opens x || closes x || (x == 92) || (x == 124)

abbrev pub is_calm : ℕ → Bool
is_calm x = not (is_stop x)

abbrev pub is_quote : ℕ → Bool
is_quote x = x == 34

abbrev pub is_unquoted : ℕ → Bool
is_unquoted x = not (is_quote x)

abbrev pub is_unclosed : ℕ → Bool
is_unclosed x = not (closes x)

abbrev pub is_odd : ℕ → Bool
is_odd n = n % 2 == 1

-- where quotes lead that are not escaped, by whether they are an odd number
abbrev pub turned : Skip → Bool → Skip
turned Plain true = Quoted
turned Plain false = Plain
turned Quoted true = Plain
turned Quoted false = Quoted
turned Escaped odd = Escaped

abbrev pub is_escaped : Skip → Bool
is_escaped Plain = false
is_escaped Quoted = false
is_escaped Escaped = true
