use Rattle.kit_words.proofs.Common.{◌≡◌, ◌<◌, ◌++◌, Bool, map, take, drop, length}
use Rattle.grid_geometry.specs.Common.{Position}
use Rattle.topo_writer.specs.Common.{cut_between, cut_after, Rising}
use Rattle.topo_writer.proofs.Cuts.{open_part}
use Rattle.topo_writer.proofs.cutting.cut_way.Given as goal

-- what is cut, and what is cut of the rest, are the pieces of the way
abbrev pub invariant-loop-i : goal.invariant-loop-i
invariant-loop-i g l = record {
  some : 0 < length l.cuts.items;
  rising : Rising l.i l.cuts.items;
  pieces : (junction : Position → Bool) → l.marks ≡ map junction l.way
      → cut_between l.way l.cuts.items ++ cut_after junction (open_part l.way l.i l.cuts.items) (drop l.i l.way)
      ≡ cut_after junction (take 1 l.way) (drop 1 l.way);
}
