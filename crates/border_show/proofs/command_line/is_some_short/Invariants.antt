use Rattle.kit_words.proofs.Common.{◌≡◌, list_any, take}
use Rattle.border_show.specs.Asked.{is_short}
use Rattle.border_show.proofs.command_line.is_some_short.Given as goal

-- whether one of the words so far begins so
abbrev pub invariant-loop-word : goal.invariant-loop-word
invariant-loop-word l = l.is_found ≡ list_any is_short (take l.word-index l.given)
