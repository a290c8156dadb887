use Rattle.kit_words.proofs.Common.{take}
use Rattle.ring_parts.specs.Common.{rings_seen}
use Rattle.point_queries.specs.Common.{CoversRings, KeepsCovered}
use Rattle.point_queries.proofs.boxes.add_rings.Given as goal

-- the rings so far lie in the boxes, as do all that did before
abbrev pub invariant-loop-ring : goal.invariant-loop-ring
invariant-loop-ring g l = record {
  covered : CoversRings l.boxes (rings_seen (take l.ring-index l.polygon));
  keeps : KeepsCovered l.initial.boxes l.boxes;
}
