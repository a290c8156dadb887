use Rattle.kit_words.proofs.Common.{sym, subst, take, length, arith, take_all}
use Rattle.arc_tables.specs.Common.{edges}
use Rattle.ring_store.specs.Common.{HoldsWith}
use Rattle.ring_store.specs.Steps.{AreKeyed}
use Rattle.ring_store.proofs.Common.{length-edges}
use Rattle.feature_exchange.proofs.Exchanged.{holds_added}
use Rattle.feature_exchange.proofs.ring_laying.lay_along.Goals as goal

pub drop_sides-requires-clause-keyed : goal.drop_sides-requires-clause-keyed
drop_sides-requires-clause-keyed g c = subst (AreKeyed c.args.vertices.now) (sym c.in-Err.ensures.err) c.requires.keyed

pub drop_sides-requires-clause-holds : goal.drop_sides-requires-clause-holds
drop_sides-requires-clause-holds g c =
    subst (λ z. HoldsWith c.args.vertices.now z (g.I.SegIndex.held c.add_sides.new.index) (take (length c.args.keys.now) (edges c.args.keys.now))) (sym c.in-Err.ensures.err)
    (subst (HoldsWith c.args.vertices.now c.args.borders.now (g.I.SegIndex.held c.add_sides.new.index))
    (sym (take_all (length c.args.keys.now) (edges c.args.keys.now) (omega (arith, length-edges c.args.keys.now (omega (arith, c.requires.round.long))))))
    c.in_ok-add_sides.ensures.holds)

pub returns-in-Ok-clause-holds : goal.returns-in-Ok-clause-holds
returns-in-Ok-clause-holds g c =
    holds_added c.args.vertices.now c.args.borders.now c.in-Ok.r c.args.keys.now c.in-Ok.ensures.new c.add_ring.new.self c.in-Ok.ensures.ok
    (g.I.SegIndex.held c.add_sides.new.index) c.in_ok-add_sides.ensures.holds
