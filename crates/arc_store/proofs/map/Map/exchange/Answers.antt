use Rattle.kit_words.proofs.Common.{◌≡◌, ◌∙◌, refl, ap, arith}
use Rattle.edit_records.specs.Common.{had_before, weights}
use Rattle.feature_exchange.specs.Common.{seen, changed_as, stored, stored_document}
use Rattle.arc_store.proofs.ExchangePlan.{apart_tables, below_tables, grows_tables, map_tables}
use Rattle.arc_store.proofs.ExchangePlan.{texts_tables, came_few}
use Rattle.arc_store.proofs.ExchangePlan.{gone_few, gone_bounded, positions_after, state_after}
use Rattle.arc_store.proofs.FeaturesKept.{kept_as}
use Rattle.arc_store.proofs.map.Map.exchange.Goals as goal

pub count_changes-came-requires : goal.count_changes-came-requires
count_changes-came-requires g c =
    let few = came_few c.self.invariant c.self.view_is c.next.ensures.placed c.args.changes.now c.requires in
    omega (arith, few)

pub exchange_features-requires-clause-apart : goal.exchange_features-requires-clause-apart
exchange_features-requires-clause-apart g c =
    apart_tables c.self.invariant c.self.view_is c.next.ensures.placed c.args.changes.now c.requires

pub exchange_features-requires-clause-below : goal.exchange_features-requires-clause-below
exchange_features-requires-clause-below g c =
    below_tables c.self.invariant c.self.view_is c.next.ensures.placed c.args.changes.now c.requires

pub exchange_features-requires-clause-grows : goal.exchange_features-requires-clause-grows
exchange_features-requires-clause-grows g c =
    grows_tables c.self.invariant c.self.view_is c.next.ensures.placed c.args.changes.now c.requires

pub exchange_features-requires-clause-map : goal.exchange_features-requires-clause-map
exchange_features-requires-clause-map g c =
    map_tables c.self.invariant c.self.view_is c.next.ensures.placed c.args.changes.now c.requires

pub exchange_features-requires-clause-texts : goal.exchange_features-requires-clause-texts
exchange_features-requires-clause-texts g c =
    texts_tables c.self.invariant c.self.view_is c.next.ensures.placed c.args.changes.now c.requires

-- refused on allocation failure: the document is as it was
pub invariant_of-self : goal.invariant_of-self
invariant_of-self g c =
    let m = c.self.inside in
    kept_as (stored_document (stored m.frame m.rings.borders m.rings.vertices)) c.exchange_features.ensures.holds c.in-Err.ensures.unchanged c.self.invariant.sized

pub count_changes-gone-requires : goal.count_changes-gone-requires
count_changes-gone-requires g c =
    let doc = stored_document (stored c.self.inside.frame c.self.inside.rings.borders c.self.inside.rings.vertices) in
    let had : weights (seen c.exchange_features.new.changes) ≡ weights (had_before doc (seen c.args.changes.now)) =
    ap weights c.in-Ok.ensures.had in
    let few = gone_bounded c.self.invariant c.self.view_is c.next.ensures.placed c.args.changes.now c.requires c.exchange_features.new.frame c.next-2.ensures.placed c.in-Ok.ensures.next c.in-Ok.ensures.places in
    omega (arith, had, few)

pub overflow_add-self : goal.overflow_add-self
overflow_add-self g c =
    let few = came_few c.self.invariant c.self.view_is c.next.ensures.placed c.args.changes.now c.requires in
    omega (arith, few, c.count_changes-came.ensures, c.self.invariant.sized, c.self.invariant.holds.small)

pub overflow_sub-self : goal.overflow_sub-self
overflow_sub-self g c =
    let doc = stored_document (stored c.self.inside.frame c.self.inside.rings.borders c.self.inside.rings.vertices) in
    let had : weights (seen c.exchange_features.new.changes) ≡ weights (had_before doc (seen c.args.changes.now)) =
    ap weights c.in-Ok.ensures.had in
    let few = gone_few c.self.invariant c.self.view_is c.next.ensures.placed c.args.changes.now c.requires c.exchange_features.new.frame c.next-2.ensures.placed c.in-Ok.ensures.next c.in-Ok.ensures.places in
    omega (arith, had, few, c.count_changes-gone.ensures)

pub invariant_of-self-2 : goal.invariant_of-self-2
invariant_of-self-2 g c =
    let doc = stored_document (stored c.self.inside.frame c.self.inside.rings.borders c.self.inside.rings.vertices) in
    let had : weights (seen c.exchange_features.new.changes) ≡ weights (had_before doc (seen c.args.changes.now)) =
    ap weights c.in-Ok.ensures.had in
    kept_as (changed_as c.args.after c.self.inside.frame c.args.changes.now doc) c.exchange_features.ensures.holds c.in-Ok.ensures.exchanged
    (positions_after c.self.invariant c.self.view_is c.next.ensures.placed c.args.changes.now c.requires c.exchange_features.new.frame c.next-2.ensures.placed c.in-Ok.ensures.next c.in-Ok.ensures.places
    c.count_changes-came.result c.count_changes-gone.result c.count_changes-came.ensures (c.count_changes-gone.ensures ∙ had))

pub returns-clause-exchanged : goal.returns-clause-exchanged
returns-clause-exchanged g c =
    let tables = c.exchange_features.new.tables in
    state_after c.self.invariant c.self.view_is c.next.ensures.placed c.args.changes.now c.requires c.exchange_features.new.frame c.next-2.ensures.placed c.in-Ok.ensures.next c.in-Ok.ensures.places
    (stored_document (stored c.exchange_features.new.frame tables.borders tables.vertices)) c.self.inside.tests tables.index.cells
    c.in-Ok.ensures.exchanged refl c.exchange_features.ensures.cells

pub returns-clause-had : goal.returns-clause-had
returns-clause-had g c =
    c.in-Ok.ensures.had ∙ ap (λ s. had_before s.doc (seen c.args.changes.now)) c.self.view_is
