use Rattle.kit_words.proofs.Common.{◌≡◌, ◌∙◌, refl, ap, arith, subst, sym, None, [], ◌∷◌}
use Rattle.grid_geometry.specs.Common.{Segment}
use Rattle.ring_machine.specs.Common.{is_vertex, first_of, remove_refusals, del, is_junction}
use Rattle.ring_store.proofs.Common.{place_kept}
use Rattle.feature_exchange.specs.Common.{stored, stored_document}
use Rattle.arc_store.specs.Common.{Refuses, IsLeftOut, State}
use Rattle.arc_store.specs.declared.fault.EditFault.TheVariants as fault
use Rattle.arc_store.proofs.Accepted.{remove_may}
use Rattle.arc_store.proofs.Indexed.{indexed_apart}
use Rattle.arc_store.proofs.LeftOut.{found_left}
use Rattle.arc_store.proofs.Outcomes.{is_made, hands_on}
use Rattle.arc_store.proofs.RemovePlan.{has_bridging, is_read, found, away, planned, not_joined, three_apart, taken}
use Rattle.arc_store.proofs.StateKept.{tested, with_document_tested}
use Rattle.arc_store.proofs.Tested.{removed_few}
use Rattle.arc_store.proofs.map.Map.remove_tested.Goals as goal

pub read_bridging-requires : goal.read_bridging-requires
read_bridging-requires g c =
    has_bridging (stored c.self.inside.frame c.self.inside.rings.borders c.self.inside.rings.vertices) c.self.invariant.holds.whole c.args.p
    (ap (λ z. is_vertex z.doc c.args.p) c.self.view_is ∙ c.requires.vertex)
    (ap (λ z. is_junction z.doc c.args.p) c.self.view_is ∙ c.requires.inner)

pub unwrap-bridging-requires : goal.unwrap-bridging-requires
unwrap-bridging-requires g c = is_read _ c.read_bridging.result c.read_bridging.ensures

-- ---- the tests

pub test_remove-requires : goal.test_remove-requires
test_remove-requires g c = record {
  apart = indexed_apart (stored_document (stored c.self.inside.frame c.self.inside.rings.borders c.self.inside.rings.vertices)) c.self.inside.rings.index.held c.self.invariant.holds.indexed c.self.invariant.holds.proper;
  away = away (found c.self.invariant c.self.view_is c.unwrap-bridging.ensures c.read_bridging.ensures c.requires.inner c.requires.long c.requires.unjoined);
}

-- ---- the tables

pub take_out-requires-clause-vertex : goal.take_out-requires-clause-vertex
take_out-requires-clause-vertex g c = place_kept _ _ _ (found c.self.invariant c.self.view_is c.unwrap-bridging.ensures c.read_bridging.ensures c.requires.inner c.requires.long c.requires.unjoined).read.here

pub take_out-requires-clause-between : goal.take_out-requires-clause-between
take_out-requires-clause-between g c x = ((found c.self.invariant c.self.view_is c.unwrap-bridging.ensures c.read_bridging.ensures c.requires.inner c.requires.long c.requires.unjoined).read.two.1 x).0

pub take_out-requires-clause-unjoined : goal.take_out-requires-clause-unjoined
take_out-requires-clause-unjoined g c = not_joined (found c.self.invariant c.self.view_is c.unwrap-bridging.ensures c.read_bridging.ensures c.requires.inner c.requires.long c.requires.unjoined)

pub take_out-requires-clause-apart : goal.take_out-requires-clause-apart
take_out-requires-clause-apart g c = three_apart (found c.self.invariant c.self.view_is c.unwrap-bridging.ensures c.read_bridging.ensures c.requires.inner c.requires.long c.requires.unjoined)

pub take_out-requires-clause-new : goal.take_out-requires-clause-new
take_out-requires-clause-new g c = (planned (found c.self.invariant c.self.view_is c.unwrap-bridging.ensures c.read_bridging.ensures c.requires.inner c.requires.long c.requires.unjoined)).new

pub take_out-requires-clause-held : goal.take_out-requires-clause-held
take_out-requires-clause-held g c = (planned (found c.self.invariant c.self.view_is c.unwrap-bridging.ensures c.read_bridging.ensures c.requires.inner c.requires.long c.requires.unjoined)).among

pub take_out-requires-clause-single : goal.take_out-requires-clause-single
take_out-requires-clause-single g c = (planned (found c.self.invariant c.self.view_is c.unwrap-bridging.ensures c.read_bridging.ensures c.requires.inner c.requires.long c.requires.unjoined)).single

-- ---- what is kept

pub overflow_sub-self : goal.overflow_sub-self
overflow_sub-self g c =
    let f = found c.self.invariant c.self.view_is c.unwrap-bridging.ensures c.read_bridging.ensures c.requires.inner c.requires.long c.requires.unjoined in
    let s = stored c.self.inside.frame c.self.inside.rings.borders c.self.inside.rings.vertices in
    let may = remove_may (stored_document s) c.args.p (c.in_ok-test_remove.ensures.accepted (stored_document s) (planned f).removable) in
    let t = taken f may c.in_ok-rings.ensures.taken c.take_out.new.tables.index.held c.in_ok-rings.ensures.exchanged in
    omega (arith, t.positions_there, c.in_ok-rings.ensures.rings)

pub invariant_of-self-2 : goal.invariant_of-self-2
invariant_of-self-2 g c =
    let f = found c.self.invariant c.self.view_is c.unwrap-bridging.ensures c.read_bridging.ensures c.requires.inner c.requires.long c.requires.unjoined in
    let s = stored c.self.inside.frame c.self.inside.rings.borders c.self.inside.rings.vertices in
    let may = remove_may (stored_document s) c.args.p (c.in_ok-test_remove.ensures.accepted (stored_document s) (planned f).removable) in
    rw c.in_ok-rings.ensures.rings (taken f may c.in_ok-rings.ensures.taken c.take_out.new.tables.index.held c.in_ok-rings.ensures.exchanged).kept

-- ---- what the edit makes

pub returns-in_err-test_remove-clause-edits : goal.returns-in_err-test_remove-clause-edits
returns-in_err-test_remove-clause-edits g c =
    let m = c.self.inside in
    let f = found c.self.invariant c.self.view_is c.unwrap-bridging.ensures c.read_bridging.ensures c.requires.inner c.requires.long c.requires.unjoined in
    hands_on c.in_err-test_remove.field-0.0 c.from_residual.result c.from_residual.ensures.1
    (subst (λ (z : State). Refuses c.in_err-test_remove.field-0.0 (first_of (remove_refusals z.doc c.args.p))) c.self.view_is (c.in_err-test_remove.ensures.refused (stored_document (stored m.frame m.rings.borders m.rings.vertices)) (planned f).removable))
    (tested c.self.invariant c.self.view_is m.rings.borders m.rings.vertices m.rings.index.cells c.test_remove.new.tests refl refl refl)

pub returns-clause-edits : goal.returns-clause-edits
returns-clause-edits g c =
    let m = c.self.inside in
    let f = found c.self.invariant c.self.view_is c.unwrap-bridging.ensures c.read_bridging.ensures c.requires.inner c.requires.long c.requires.unjoined in
    let s = stored m.frame m.rings.borders m.rings.vertices in
    let none = c.in_ok-test_remove.ensures.accepted (stored_document s) (planned f).removable in
    let may = remove_may (stored_document s) c.args.p none in
    is_made (subst (λ (z : State). first_of (remove_refusals z.doc c.args.p) ≡ None) c.self.view_is none)
    (with_document_tested c.self.invariant c.self.view_is c.take_out.new.tables.borders c.take_out.new.tables.vertices c.take_out.new.tables.index.cells c.test_remove.new.tests
    ((taken f may c.in_ok-rings.ensures.taken c.take_out.new.tables.index.held c.in_ok-rings.ensures.exchanged).doc
    ∙ ap (λ z. del z.doc c.args.p) c.self.view_is)
    c.take_out.ensures.cells)

pub returns-clause-left : goal.returns-clause-left
returns-clause-left g c =
    let f = found c.self.invariant c.self.view_is c.unwrap-bridging.ensures c.read_bridging.ensures c.requires.inner c.requires.long c.requires.unjoined in
    subst (λ (z : Segment). IsLeftOut c.args.self.now.doc c.args.p (record { at = c.args.p; a = z.lo; b = z.hi })) (sym c.after.view_is)
    (found_left f c.self.view_is)

-- ---- how many tests

pub returns-in_err-test_remove-clause-few : goal.returns-in_err-test_remove-clause-few
returns-in_err-test_remove-clause-few g c =
    let f = found c.self.invariant c.self.view_is c.unwrap-bridging.ensures c.read_bridging.ensures c.requires.inner c.requires.long c.requires.unjoined in
    removed_few c.self.invariant c.self.view_is c.args.p c.unwrap-bridging.result.after (c.unwrap-bridging.result.before.0 ∷ c.unwrap-bridging.result.before.1 ∷ []) (planned f) c.test_remove.new.tests c.test_remove.ensures.few

pub returns-in_err-rings-clause-edits : goal.returns-in_err-rings-clause-edits
returns-in_err-rings-clause-edits g c =
    hands_on fault.OutOfMemory c.from_residual-in_err-rings.result c.from_residual-in_err-rings.ensures.1 tt
    (tested c.self.invariant c.self.view_is c.take_out.new.tables.borders c.take_out.new.tables.vertices c.take_out.new.tables.index.cells c.test_remove.new.tests
    (ap (λ t. t.borders) c.in_err-rings.ensures.unchanged) (ap (λ t. t.vertices) c.in_err-rings.ensures.unchanged) c.take_out.ensures.cells)

pub returns-in_err-rings-clause-few : goal.returns-in_err-rings-clause-few
returns-in_err-rings-clause-few g c =
    let f = found c.self.invariant c.self.view_is c.unwrap-bridging.ensures c.read_bridging.ensures c.requires.inner c.requires.long c.requires.unjoined in
    removed_few c.self.invariant c.self.view_is c.args.p c.unwrap-bridging.result.after (c.unwrap-bridging.result.before.0 ∷ c.unwrap-bridging.result.before.1 ∷ []) (planned f) c.test_remove.new.tests c.test_remove.ensures.few

pub returns-clause-few : goal.returns-clause-few
returns-clause-few g c =
    let f = found c.self.invariant c.self.view_is c.unwrap-bridging.ensures c.read_bridging.ensures c.requires.inner c.requires.long c.requires.unjoined in
    removed_few c.self.invariant c.self.view_is c.args.p c.unwrap-bridging.result.after (c.unwrap-bridging.result.before.0 ∷ c.unwrap-bridging.result.before.1 ∷ []) (planned f) c.test_remove.new.tests c.test_remove.ensures.few
