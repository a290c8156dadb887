use Rattle.kit_words.proofs.Common.{length}
use Rattle.layer_sides.specs.Common.{borders_seen}
use Rattle.layer_sides.proofs.Grouping.{IsGrouping}
use Rattle.layer_sides.proofs.borders.grouped.Given as goal

-- the borders of those before the rest
abbrev pub invariant-loop-rest : goal.invariant-loop-rest
invariant-loop-rest g l = IsGrouping l.odd l.rest (borders_seen l.borders.items)

abbrev pub decreases-loop-rest : goal.decreases-loop-rest
decreases-loop-rest g l = length l.rest
