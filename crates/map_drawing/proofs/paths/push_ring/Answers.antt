use Rattle.map_drawing.proofs.PathLemmas.{begun, ring_is}
use Rattle.map_drawing.proofs.paths.push_ring.Goals as goal

pub returns : goal.returns
returns g c =
    ring_is _ _ _ _ c.start-item.result c.args.ring.now _ (begun c.args.ring.now c.start-item.result c.in-len1-up.len_at_least c.start-item.is)
    c.in_ok-push_start.ensures c.in_ok-push_steps.ensures c.in_ok-extend_from_slice.ensures.items
