use Rattle.kit_words.proofs.Common.{◌≡◌, take, flat_map}
use Rattle.layer_sides.specs.Seen.{segments_seen}
use Rattle.layer_sides.specs.Under.{turned_ends}
use Rattle.layer_sides.proofs.vertices.turned_ends.Given as goal

-- the ends of those so far
abbrev pub invariant-loop-border : goal.invariant-loop-border
invariant-loop-border g l = l.found.items ≡ flat_map turned_ends (take l.border-index (segments_seen l.borders))
