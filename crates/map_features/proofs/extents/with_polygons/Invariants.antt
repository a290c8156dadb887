use Rattle.kit_words.proofs.Common.{take}
use Rattle.map_features.specs.Common.{AreWithin}
use Rattle.map_features.proofs.WithinLemmas.{Wider}
use Rattle.map_features.proofs.extents.with_polygons.Given as goal

-- the bounds have the polygons so far
abbrev pub invariant-loop-rings : goal.invariant-loop-rings
invariant-loop-rings g l = record {
  new : AreWithin l.bounds (take l.rings-index l.polygons);
  kept : Wider l.fn.before l.bounds;
}
