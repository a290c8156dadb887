use Rattle.kit_words.proofs.Common.{◌≤◌, arith, length, subst}
use Rattle.std.proofs.Common.{take_all}
use Rattle.arc_tables.specs.Common.{edges}
use Rattle.ring_store.specs.Common.{HoldsWith}
use Rattle.ring_store.proofs.Common.{length-edges}
use Rattle.feature_exchange.proofs.Exchanged.{ring_there, ring_round, keyed_without, holds_without, stands_without}
use Rattle.feature_exchange.proofs.StillUsed.{sides_stay, vertices_stay}
use Rattle.feature_exchange.proofs.taking.take_out_ring.Goals as goal

pub take_out-requires : goal.take_out-requires
take_out-requires g c =
    ring_there c.args.vertices.now c.args.borders.now (g.I.SegIndex.held c.args.index.now) c.requires.stands c.args.number c.args.keys.now c.requires.there

pub all_used-requires : goal.all_used-requires
all_used-requires g c =
    let round = ring_round c.args.vertices.now c.args.borders.now (g.I.SegIndex.held c.args.index.now) c.requires.stands c.args.number c.args.keys.now c.requires.there in
    omega (arith, round.long)

pub returns-then-all_used-clause-stands : goal.returns-then-all_used-clause-stands
returns-then-all_used-clause-stands g c =
    let p = c.args.vertices.now in
    let held = g.I.SegIndex.held c.args.index.now in
    let keyed = keyed_without p c.args.borders.now held c.requires.stands c.args.number c.args.keys.now c.requires.there c.take_out.new.self c.take_out.ensures in
    let round = ring_round p c.args.borders.now held c.requires.stands c.args.number c.args.keys.now c.requires.there in
    let used = c.all_used.ensures c.if-all_used.true in
    stands_without p c.args.borders.now held c.requires.stands c.args.number c.args.keys.now c.requires.there c.take_out.new.self c.take_out.ensures held p
    (sides_stay p c.take_out.new.self c.args.keys.now used held
    (subst (HoldsWith p c.take_out.new.self held) (take_all (length c.args.keys.now) (edges c.args.keys.now) (omega (arith, length-edges c.args.keys.now (omega (arith, round.long)))))
    (holds_without p c.args.borders.now held c.requires.stands c.args.number c.args.keys.now c.requires.there c.take_out.new.self c.take_out.ensures)))
    (vertices_stay p c.take_out.new.self c.args.keys.now used keyed.round)

pub drop_sides-requires-clause-keyed : goal.drop_sides-requires-clause-keyed
drop_sides-requires-clause-keyed g c =
    keyed_without c.args.vertices.now c.args.borders.now (g.I.SegIndex.held c.args.index.now) c.requires.stands c.args.number c.args.keys.now c.requires.there
    c.take_out.new.self c.take_out.ensures

pub drop_sides-requires-clause-round : goal.drop_sides-requires-clause-round
drop_sides-requires-clause-round g c =
    ring_round c.args.vertices.now c.args.borders.now (g.I.SegIndex.held c.args.index.now) c.requires.stands c.args.number c.args.keys.now c.requires.there

pub drop_sides-requires-clause-holds : goal.drop_sides-requires-clause-holds
drop_sides-requires-clause-holds g c =
    holds_without c.args.vertices.now c.args.borders.now (g.I.SegIndex.held c.args.index.now) c.requires.stands c.args.number c.args.keys.now c.requires.there
    c.take_out.new.self c.take_out.ensures

pub remove_all_lonely-requires-clause-round : goal.remove_all_lonely-requires-clause-round
remove_all_lonely-requires-clause-round g c =
    (keyed_without c.args.vertices.now c.args.borders.now (g.I.SegIndex.held c.args.index.now) c.requires.stands c.args.number c.args.keys.now c.requires.there
    c.take_out.new.self c.take_out.ensures).round

pub remove_all_lonely-requires-clause-placed : goal.remove_all_lonely-requires-clause-placed
remove_all_lonely-requires-clause-placed g c =
    (ring_round c.args.vertices.now c.args.borders.now (g.I.SegIndex.held c.args.index.now) c.requires.stands c.args.number c.args.keys.now c.requires.there).placed

pub remove_all_lonely-requires-clause-different : goal.remove_all_lonely-requires-clause-different
remove_all_lonely-requires-clause-different g c =
    (ring_round c.args.vertices.now c.args.borders.now (g.I.SegIndex.held c.args.index.now) c.requires.stands c.args.number c.args.keys.now c.requires.there).different

pub returns-clause-stands : goal.returns-clause-stands
returns-clause-stands g c =
    stands_without c.args.vertices.now c.args.borders.now (g.I.SegIndex.held c.args.index.now) c.requires.stands c.args.number c.args.keys.now c.requires.there
    c.take_out.new.self c.take_out.ensures (g.I.SegIndex.held c.drop_sides.new.index) c.remove_all_lonely.new.vertices c.drop_sides.ensures.holds c.remove_all_lonely.ensures

pub returns-clause-places : goal.returns-clause-places
returns-clause-places g c = c.remove_all_lonely.ensures.kept
