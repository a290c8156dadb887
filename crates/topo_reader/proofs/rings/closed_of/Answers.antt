use Rattle.kit_words.proofs.Common.{◌∙◌, map, sym}
use Rattle.topo_reader.specs.Common.{arc_of}
use Rattle.topo_reader.proofs.Joining.{as_ring, as_walk, not_closed}
use Rattle.topo_reader.proofs.rings.closed_of.Goals as goal

pub returns-then-not-meet : goal.returns-then-not-meet
returns-then-not-meet g c = not_closed c.args.closed c.args.ring_at (map arc_of c.args.uses.now) (sym c.meet.ensures ∙ c.if-not-meet.true)

pub returns-in-Rings : goal.returns-in-Rings
returns-in-Rings g c = rw (as_ring c.args.closed c.args.ring_at (map arc_of c.args.uses.now) c.in_ok-walk.walk.items c.in-Rings.is (sym c.meet.ensures ∙ c.if-not-meet.false) c.in_ok-walk.ensures) c.simple.ensures

pub returns-in-Walks : goal.returns-in-Walks
returns-in-Walks g c = as_walk c.args.closed c.args.ring_at (map arc_of c.args.uses.now) c.in_ok-walk.walk.items c.in-Walks.is (sym c.meet.ensures ∙ c.if-not-meet.false) c.in_ok-walk.ensures
