use Rattle.kit_words.proofs.Common.{◌≡◌, ◌∷◌, ◌++◌, true, drop}
use Rattle.ring_machine.specs.Common.{is_distinct}
use Rattle.ring_parts.proofs.WaySegments.{segments_along}
use Rattle.ring_parts.proofs.paths.way_segments.Given as goal

-- the segments so far and those of the way that is left are all
abbrev pub invariant-loop-to : goal.invariant-loop-to
invariant-loop-to g l = record {
  all : l.segments.items ++ segments_along (l.from ∷ drop l.to-index l.rest) ≡ segments_along l.positions;
  different : is_distinct (l.from ∷ drop l.to-index l.rest) ≡ true;
}
