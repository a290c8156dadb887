use Rattle.kit_words.proofs.Common.{◌≡◌, map, drop}
use Rattle.topo_outline.specs.Common.{each_at}
use Rattle.topo_reader.specs.Common.{closed_of, ring_uses, positions_of}
use Rattle.topo_outline.proofs.Common.{with_front}
use Rattle.topo_reader.proofs.rings.polygon_of.Given as goal

abbrev pub invariant-loop-ring : goal.invariant-loop-ring
invariant-loop-ring g l = with_front (map positions_of l.found.items) (each_at (λ r. closed_of l.closed (record { feature = l.feature; polygon = l.polygon; ring = r })) l.ring (map ring_uses (drop l.ring l.rings))) ≡ each_at (λ r. closed_of l.closed (record { feature = l.feature; polygon = l.polygon; ring = r })) 0 (map ring_uses l.fn.rings)
