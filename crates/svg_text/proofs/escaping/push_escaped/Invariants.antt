use Rattle.kit_words.proofs.Common.{◌≡◌, ◌++◌, drop}
use Rattle.svg_text.specs.Common.{escaped, escaped_from}
use Rattle.svg_text.proofs.escaping.push_escaped.Given as goal

-- what was appended so far, and what the bytes that are left become, are the whole
abbrev pub invariant-loop-byte : goal.invariant-loop-byte
invariant-loop-byte g l =
    l.text.items ++ escaped_from l.first l.second (drop l.byte-index l.bytes)
    ≡ l.fn.text.items ++ escaped l.bytes
