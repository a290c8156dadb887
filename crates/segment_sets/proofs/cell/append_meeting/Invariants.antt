use Rattle.kit_words.proofs.Common.{◌≡◌, ◌++◌, take}
use Rattle.segment_sets.specs.Common.{meeting}
use Rattle.segment_sets.proofs.cell.append_meeting.Given as goal

abbrev pub invariant-loop-s : goal.invariant-loop-s
invariant-loop-s g l = l.out.items ≡ l.initial.out.items ++ meeting l.rect (take l.s-index l.items)
