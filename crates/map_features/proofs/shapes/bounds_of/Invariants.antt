use Rattle.kit_words.proofs.Common.{take, All}
use Rattle.map_features.specs.Common.{ShapeIn}
use Rattle.map_features.proofs.WithinLemmas.{Wider}
use Rattle.map_features.proofs.shapes.bounds_of.Given as goal

-- the bounds have the features so far
abbrev pub invariant-loop-shape : goal.invariant-loop-shape
invariant-loop-shape g l = record {
  new : All (ShapeIn l.bounds) (take l.shape-index l.shapes);
  kept : Wider l.fn.before l.bounds;
}
