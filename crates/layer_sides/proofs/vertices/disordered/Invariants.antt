use Rattle.kit_words.proofs.Common.{take, All}
use Rattle.grid_geometry.specs.Common.{IsSegment}
use Rattle.layer_sides.specs.Seen.{segments_seen}
use Rattle.layer_sides.proofs.vertices.disordered.Given as goal

-- the ends of those so far are in order
abbrev pub invariant-loop-border : goal.invariant-loop-border
invariant-loop-border g l = All IsSegment (take l.border-index (segments_seen l.borders))
