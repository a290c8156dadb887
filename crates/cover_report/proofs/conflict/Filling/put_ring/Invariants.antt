use Rattle.kit_words.proofs.Common.{drop}
use Rattle.cover_report.specs.Filling.{Fills}
use Rattle.cover_report.specs.declared.conflict.Filling.{Filling}
use Rattle.cover_report.proofs.Filled.{way_segments}
use Rattle.cover_report.proofs.conflict.Filling.put_ring.Given as goal

-- whatever comes of the way that is left, with what came it is all
abbrev pub invariant-loop-to : goal.invariant-loop-to
invariant-loop-to g l =
    (after : Filling _) → Fills l.self (way_segments l.from (drop l.to-index l.rest) l.first) after
    → Fills l.fn.self (way_segments l.first l.rest l.first) after
