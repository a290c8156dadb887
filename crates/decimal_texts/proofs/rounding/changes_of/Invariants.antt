use Rattle.kit_words.proofs.Common.{◌≡◌, map, drop}
use Rattle.json_spans.specs.Common.{node}
use Rattle.decimal_texts.specs.Common.{change, all_or_fault, new_text}
use Rattle.decimal_texts.proofs.Changing.{with_front}
use Rattle.decimal_texts.proofs.rounding.changes_of.Given as goal

abbrev pub invariant-loop-part : goal.invariant-loop-part
invariant-loop-part g l =
    with_front (map change l.changes.items) (all_or_fault (new_text l.grid.digits l.grid.finer) (map node (drop l.part-index l.parts)))
    ≡ all_or_fault (new_text l.fn.grid.digits l.fn.grid.finer) (map node l.fn.parts)
