use Rattle.kit_words.proofs.Common.{◌≡◌, ◌≤◌, ◌*◌, ◌^◌, map, take}
use Rattle.layer_faces.specs.Common.{border_length, segments_seen, side_at}
use Rattle.layer_faces.proofs.measures.border_length.Given as goal

-- the sum so far, and how large it may be
abbrev pub invariant-loop-side : goal.invariant-loop-side
invariant-loop-side g l = record {
  whole : l.sum ≡ border_length (map (side_at (segments_seen l.borders)) (take l.side-index l.sides));
  bound : l.sum ≤ 2 ^ 64 * l.side-index;
}
