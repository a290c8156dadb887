use Rattle.kit_words.proofs.Common.{◌≡◌, ◌≤◌, ◌*◌, unsigned_abs, map, take}
use Rattle.layer_faces.specs.Common.{segments_seen, side_at, side_term, total}
use Rattle.layer_faces.proofs.measures.area_of.Given as goal

-- the sum so far, and how large it may be
abbrev pub invariant-loop-side : goal.invariant-loop-side
invariant-loop-side g l = record {
  whole : l.area ≡ total side_term (map (side_at (segments_seen l.borders)) (take l.side-index l.sides));
  bound : unsigned_abs l.area ≤ 2000000000000000000000000 * l.side-index;
}
