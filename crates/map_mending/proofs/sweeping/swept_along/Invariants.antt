use Rattle.kit_words.proofs.Common.{◌≡◌, ◌≤◌, ◌<◌, ◌+◌, ◌*◌, ◌∷◌, ◌++◌, [], drop, length, AllByRecursion}
use Rattle.std.proofs.Common.{sum_by}
use Rattle.grid_geometry.specs.Common.{links}
use Rattle.map_mending.specs.Common.{triangle, swept_along, IsBeside}
use Rattle.map_mending.proofs.sweeping.swept_along.Given as goal

-- the triangles so far and those of the rest of the path are all, and they are small
abbrev pub invariant-loop-to : goal.invariant-loop-to
invariant-loop-to l = record {
  whole : l.sum + sum_by (triangle l.segment.hi) (links (l.from ∷ drop l.to-index l.inner ++ l.segment.hi ∷ [])) ≡ swept_along l.segment l.inner;
  bound : l.sum ≤ 4000000000000 * l.to-index;
  beside : 0 < length l.inner → AllByRecursion (IsBeside l.segment) (l.from ∷ drop l.to-index l.inner);
}
