use Rattle.kit_words.proofs.Common.{sym, ap, ◌∙◌, subst, arith, Some}
use Rattle.arc_store.specs.Common.{IsSpot}
use Rattle.edit_vertex.proofs.Removing.{ordered_differ, bridged_is, rings_long, ring_short, remove_no_vertex}
use Rattle.edit_vertex.proofs.Removing.{remove_junction, remove_short, remove_bridged}
use Rattle.edit_vertex.proofs.remove.check_removal.Goals as goal

pub is_joined-requires : goal.is_joined-requires
is_joined-requires g c =
    let there = subst (IsSpot c.args.map.now.doc c.args.p) (c.in-Some.is ∙ ap Some c.in-Between.is) c.spot.ensures in
    record { apart = ordered_differ c.in-Between.a c.in-Between.b there.0.order }

pub returns-then-shortest-le-FEWEST_POSITIONS-clause-refused : goal.returns-then-shortest-le-FEWEST_POSITIONS-clause-refused
returns-then-shortest-le-FEWEST_POSITIONS-clause-refused g c =
    let there = subst (IsSpot c.args.map.now.doc c.args.p) (c.in-Some.is ∙ ap Some c.in-Between.is) c.spot.ensures in
    remove_short c.args.map.now.doc c.args.p there.0.vertex there.0.inner (ring_short c.args.map.now.doc c.args.p c.in-Between.shortest there.1 c.if-shortest-le-FEWEST_POSITIONS.true)

pub returns-then-is_joined-clause-refused : goal.returns-then-is_joined-clause-refused
returns-then-is_joined-clause-refused g c =
    let there = subst (IsSpot c.args.map.now.doc c.args.p) (c.in-Some.is ∙ ap Some c.in-Between.is) c.spot.ensures in
    remove_bridged c.args.map.now.doc c.args.p there.0.vertex there.0.inner (rings_long c.args.map.now.doc c.args.p c.in-Between.shortest there.1 (omega (arith, c.if-shortest-le-FEWEST_POSITIONS.false)))
    (bridged_is c.args.map.now.doc c.args.p c.in-Between.a c.in-Between.b c.requires.proper there.0 ∙ sym c.is_joined.ensures ∙ c.if-is_joined.true)

pub returns-in-Junction-clause-refused : goal.returns-in-Junction-clause-refused
returns-in-Junction-clause-refused g c =
    let there = subst (IsSpot c.args.map.now.doc c.args.p) (c.in-Some.is ∙ ap Some c.in-Junction.is) c.spot.ensures in
    remove_junction c.args.map.now.doc c.args.p there.0 there.1

pub returns-in_default-clause-refused : goal.returns-in_default-clause-refused
returns-in_default-clause-refused g c = remove_no_vertex c.args.map.now.doc c.args.p (subst (IsSpot c.args.map.now.doc c.args.p) c.in_default.is c.spot.ensures)

pub returns-else-is_joined-clause-leavable : goal.returns-else-is_joined-clause-leavable
returns-else-is_joined-clause-leavable g c =
    let there = subst (IsSpot c.args.map.now.doc c.args.p) (c.in-Some.is ∙ ap Some c.in-Between.is) c.spot.ensures in
    record {
      vertex = there.0.vertex;
      inner = there.0.inner;
      long = rings_long c.args.map.now.doc c.args.p c.in-Between.shortest there.1 (omega (arith, c.if-shortest-le-FEWEST_POSITIONS.false));
      unjoined = bridged_is c.args.map.now.doc c.args.p c.in-Between.a c.in-Between.b c.requires.proper there.0 ∙ sym c.is_joined.ensures ∙ c.if-is_joined.false;
    }
