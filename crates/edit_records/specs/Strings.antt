-- The JSON string of a text.
use Rattle.std.specs.Prelude.{ℕ, List}
use Rattle.serde_json.specs.Data.{string}
use Rattle.serde_json.specs.Written.{compact_text}
use Rattle.ring_machine.specs.Common.{Text}

-- the JSON string that is written for a text (RFC 8259, 7), as `serde_json` writes it: the text
-- between quotation marks, in which a backslash stands before `"` and `\`, and a control character
-- is \b, \f, \n, \r or \t, or else \u00 and two lower digits
abbrev pub string_text : List ℕ → Text
string_text text = compact_text (string text)
