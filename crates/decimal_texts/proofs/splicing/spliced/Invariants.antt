use Rattle.kit_words.proofs.Common.{◌≡◌, ◌++◌, map, drop}
use Rattle.decimal_texts.specs.Common.{change, spliced}
use Rattle.decimal_texts.proofs.splicing.spliced.Given as goal

abbrev pub invariant-loop-change : goal.invariant-loop-change
invariant-loop-change g l =
    l.text.items ++ spliced l.bytes l.from (map change (drop l.change-index l.changes)) ≡ spliced l.fn.bytes 0 (map change l.fn.changes)
