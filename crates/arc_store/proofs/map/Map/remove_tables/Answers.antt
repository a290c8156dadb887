use Rattle.kit_words.proofs.Common.{◌∙◌, ap, arith, subst, sym, err_from_is_err_and}
use Rattle.ring_machine.specs.Common.{is_vertex, del, is_junction}
use Rattle.ring_store.proofs.Common.{place_kept}
use Rattle.feature_exchange.specs.Common.{stored}
use Rattle.arc_store.specs.Common.{IsLeavable, State}
use Rattle.arc_store.proofs.RemovePlan.{has_bridging, is_read, found, planned, not_joined, three_apart, taken}
use Rattle.arc_store.proofs.StateKept.{with_document, same_tables}
use Rattle.arc_store.proofs.map.Map.remove_tables.Goals as goal

pub read_bridging-requires : goal.read_bridging-requires
read_bridging-requires g c =
    has_bridging (stored c.self.inside.frame c.self.inside.rings.borders c.self.inside.rings.vertices) c.self.invariant.holds.whole c.args.p
    (ap (λ z. is_vertex z.doc c.args.p) c.self.view_is ∙ c.requires.leavable.vertex)
    (ap (λ z. is_junction z.doc c.args.p) c.self.view_is ∙ c.requires.leavable.inner)

pub unwrap-bridging-requires : goal.unwrap-bridging-requires
unwrap-bridging-requires g c = is_read _ c.read_bridging.result c.read_bridging.ensures

-- ---- the tables

pub take_out-requires-clause-vertex : goal.take_out-requires-clause-vertex
take_out-requires-clause-vertex g c = place_kept _ _ _ (found c.self.invariant c.self.view_is c.unwrap-bridging.ensures c.read_bridging.ensures c.requires.leavable.inner c.requires.leavable.long c.requires.leavable.unjoined).read.here

pub take_out-requires-clause-between : goal.take_out-requires-clause-between
take_out-requires-clause-between g c x = ((found c.self.invariant c.self.view_is c.unwrap-bridging.ensures c.read_bridging.ensures c.requires.leavable.inner c.requires.leavable.long c.requires.leavable.unjoined).read.two.1 x).0

pub take_out-requires-clause-unjoined : goal.take_out-requires-clause-unjoined
take_out-requires-clause-unjoined g c = not_joined (found c.self.invariant c.self.view_is c.unwrap-bridging.ensures c.read_bridging.ensures c.requires.leavable.inner c.requires.leavable.long c.requires.leavable.unjoined)

pub take_out-requires-clause-apart : goal.take_out-requires-clause-apart
take_out-requires-clause-apart g c = three_apart (found c.self.invariant c.self.view_is c.unwrap-bridging.ensures c.read_bridging.ensures c.requires.leavable.inner c.requires.leavable.long c.requires.leavable.unjoined)

pub take_out-requires-clause-new : goal.take_out-requires-clause-new
take_out-requires-clause-new g c = (planned (found c.self.invariant c.self.view_is c.unwrap-bridging.ensures c.read_bridging.ensures c.requires.leavable.inner c.requires.leavable.long c.requires.leavable.unjoined)).new

pub take_out-requires-clause-held : goal.take_out-requires-clause-held
take_out-requires-clause-held g c = (planned (found c.self.invariant c.self.view_is c.unwrap-bridging.ensures c.read_bridging.ensures c.requires.leavable.inner c.requires.leavable.long c.requires.leavable.unjoined)).among

pub take_out-requires-clause-single : goal.take_out-requires-clause-single
take_out-requires-clause-single g c = (planned (found c.self.invariant c.self.view_is c.unwrap-bridging.ensures c.read_bridging.ensures c.requires.leavable.inner c.requires.leavable.long c.requires.leavable.unjoined)).single

-- ---- what is kept

pub overflow_sub-self : goal.overflow_sub-self
overflow_sub-self g c =
    let f = found c.self.invariant c.self.view_is c.unwrap-bridging.ensures c.read_bridging.ensures c.requires.leavable.inner c.requires.leavable.long c.requires.leavable.unjoined in
    let may = subst (λ (z : State). IsLeavable z.doc c.args.p) (sym c.self.view_is) c.requires.leavable in
    let t = taken f may c.in_ok-rings.ensures.taken c.take_out.new.tables.index.held c.in_ok-rings.ensures.exchanged in
    omega (arith, t.positions_there, c.in_ok-rings.ensures.rings)

pub invariant_of-self-2 : goal.invariant_of-self-2
invariant_of-self-2 g c =
    let f = found c.self.invariant c.self.view_is c.unwrap-bridging.ensures c.read_bridging.ensures c.requires.leavable.inner c.requires.leavable.long c.requires.leavable.unjoined in
    let may = subst (λ (z : State). IsLeavable z.doc c.args.p) (sym c.self.view_is) c.requires.leavable in
    rw c.in_ok-rings.ensures.rings (taken f may c.in_ok-rings.ensures.taken c.take_out.new.tables.index.held c.in_ok-rings.ensures.exchanged).kept

pub returns-clause-removed : goal.returns-clause-removed
returns-clause-removed g c =
    let f = found c.self.invariant c.self.view_is c.unwrap-bridging.ensures c.read_bridging.ensures c.requires.leavable.inner c.requires.leavable.long c.requires.leavable.unjoined in
    let may = subst (λ (z : State). IsLeavable z.doc c.args.p) (sym c.self.view_is) c.requires.leavable in
    with_document c.self.invariant c.self.view_is c.take_out.new.tables.borders c.take_out.new.tables.vertices c.take_out.new.tables.index.cells
    ((taken f may c.in_ok-rings.ensures.taken c.take_out.new.tables.index.held c.in_ok-rings.ensures.exchanged).doc
    ∙ ap (λ z. del z.doc c.args.p) c.self.view_is)
    c.take_out.ensures.cells

pub returns-in_err-rings-clause-unchanged : goal.returns-in_err-rings-clause-unchanged
returns-in_err-rings-clause-unchanged g c =
    let e = err_from_is_err_and c.from_residual.result c.from_residual.ensures.1 in
    rw e.1
    (same_tables c.self.invariant c.self.view_is c.take_out.new.tables.borders c.take_out.new.tables.vertices c.take_out.new.tables.index.cells (ap (λ t. t.borders) c.in_err-rings.ensures.unchanged) (ap (λ t. t.vertices) c.in_err-rings.ensures.unchanged) c.take_out.ensures.cells)
