use Rattle.kit_words.proofs.Common.{◌≡◌, map, drop}
use Rattle.topo_outline.specs.Common.{each_at}
use Rattle.topo_reader.specs.Common.{polygon_of, polygon_uses, polygon_positions}
use Rattle.topo_outline.proofs.Common.{with_front}
use Rattle.topo_reader.proofs.rings.feature_of.Given as goal

abbrev pub invariant-loop-polygon : goal.invariant-loop-polygon
invariant-loop-polygon g l = with_front (map polygon_positions l.found.items) (each_at (polygon_of l.closed l.feature) l.polygon (map polygon_uses (drop l.polygon l.polygons))) ≡ each_at (polygon_of l.closed l.feature) 0 (map polygon_uses l.fn.polygons)
