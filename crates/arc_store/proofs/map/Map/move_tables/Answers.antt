use Rattle.kit_words.proofs.Common.{◌∙◌, sym, ap, subst, err_from_is_err_and}
use Rattle.ring_machine.specs.Common.{is_vertex}
use Rattle.segment_index.specs.Common.{AreAmong, AreSingle}
use Rattle.feature_exchange.specs.Common.{stored}
use Rattle.ring_store.specs.Common.{AreNew}
use Rattle.arc_store.proofs.MovePlan.{has_moving, plan_new, plan_single, plan_held, plan_once, document_after, kept_after}
use Rattle.arc_store.proofs.StateKept.{with_document, same_tables}
use Rattle.arc_store.proofs.map.Map.move_tables.Goals as goal

pub read_moving-requires : goal.read_moving-requires
read_moving-requires g c =
    has_moving (stored c.self.inside.frame c.self.inside.rings.borders c.self.inside.rings.vertices) c.self.invariant.holds.whole c.args.p c.args.q
    (ap (λ z. is_vertex z.doc c.args.p) c.self.view_is ∙ c.requires.movable.vertex)
    (ap (λ z. is_vertex z.doc c.args.q) c.self.view_is ∙ c.requires.movable.free)

pub shift-requires-clause-new : goal.shift-requires-clause-new
shift-requires-clause-new g c =
    let m = c.in_ok-moving.moving in
    let r = c.in_ok-moving.ensures.read in
    subst (AreNew c.self.inside.rings.index.held) (sym (c.as_slice-after.ensures.value ∙ r.comes))
    (plan_new (stored c.self.inside.frame c.self.inside.rings.borders c.self.inside.rings.vertices) c.self.inside.rings.index.held c.self.invariant.holds m.key c.args.p c.args.q r.here (ap (λ z. is_vertex z.doc c.args.q) c.self.view_is ∙ c.requires.movable.free) m.around.items r.all)

pub shift-requires-clause-after_once : goal.shift-requires-clause-after_once
shift-requires-clause-after_once g c =
    let m = c.in_ok-moving.moving in
    let r = c.in_ok-moving.ensures.read in
    subst AreSingle (sym (c.as_slice-after.ensures.value ∙ r.comes))
    (plan_single (stored c.self.inside.frame c.self.inside.rings.borders c.self.inside.rings.vertices) c.self.inside.rings.index.held c.self.invariant.holds m.key c.args.p c.args.q r.here (ap (λ z. is_vertex z.doc c.args.q) c.self.view_is ∙ c.requires.movable.free) m.around.items r.all)

pub shift-requires-clause-held : goal.shift-requires-clause-held
shift-requires-clause-held g c =
    let m = c.in_ok-moving.moving in
    let r = c.in_ok-moving.ensures.read in
    subst (AreAmong c.self.inside.rings.index.held) (sym (c.as_slice-before.ensures.value ∙ r.goes))
    (plan_held (stored c.self.inside.frame c.self.inside.rings.borders c.self.inside.rings.vertices) c.self.inside.rings.index.held c.self.invariant.holds m.key c.args.p c.args.q r.here (ap (λ z. is_vertex z.doc c.args.q) c.self.view_is ∙ c.requires.movable.free) m.around.items r.all)

pub shift-requires-clause-before_once : goal.shift-requires-clause-before_once
shift-requires-clause-before_once g c =
    let m = c.in_ok-moving.moving in
    let r = c.in_ok-moving.ensures.read in
    subst AreSingle (sym (c.as_slice-before.ensures.value ∙ r.goes))
    (plan_once (stored c.self.inside.frame c.self.inside.rings.borders c.self.inside.rings.vertices) c.self.inside.rings.index.held c.self.invariant.holds m.key c.args.p c.args.q r.here (ap (λ z. is_vertex z.doc c.args.q) c.self.view_is ∙ c.requires.movable.free) m.around.items r.all)

pub invariant_of-self : goal.invariant_of-self
invariant_of-self g c =
    let m = c.in_ok-moving.moving in
    let r = c.in_ok-moving.ensures.read in
    kept_after c.shift.result c.self.inside.frame c.self.inside.rings c.shift.new.tables c.self.inside.positions c.self.invariant c.args.self.now.doc (ap (λ z. z.doc) c.self.view_is) m.key c.args.p c.args.q r.here c.requires.movable
    m.around.items r.all c.as_slice-after.result.now c.as_slice-before.result.now (c.as_slice-after.ensures.value ∙ r.comes) (c.as_slice-before.ensures.value ∙ r.goes)
    c.shift.ensures.moved c.shift.ensures.exchanged c.shift.ensures.borders c.shift.ensures.unchanged

pub invariant_of-self-2 : goal.invariant_of-self-2
invariant_of-self-2 g c =
    let m = c.in_ok-moving.moving in
    let r = c.in_ok-moving.ensures.read in
    kept_after c.shift.result c.self.inside.frame c.self.inside.rings c.shift.new.tables c.self.inside.positions c.self.invariant c.args.self.now.doc (ap (λ z. z.doc) c.self.view_is) m.key c.args.p c.args.q r.here c.requires.movable
    m.around.items r.all c.as_slice-after.result.now c.as_slice-before.result.now (c.as_slice-after.ensures.value ∙ r.comes) (c.as_slice-before.ensures.value ∙ r.goes)
    c.shift.ensures.moved c.shift.ensures.exchanged c.shift.ensures.borders c.shift.ensures.unchanged

pub returns-clause-moved : goal.returns-clause-moved
returns-clause-moved g c =
    with_document c.self.invariant c.self.view_is c.shift.new.tables.borders c.shift.new.tables.vertices c.shift.new.tables.index.cells
    (document_after c.self.inside.frame c.self.inside.rings c.shift.new.tables c.self.invariant.holds.whole c.args.self.now.doc (ap (λ z. z.doc) c.self.view_is) c.in_ok-moving.moving.key c.args.p c.args.q c.in_ok-moving.ensures.read.here c.requires.movable.free c.shift.ensures.borders c.in_ok-shift.ensures.moved)
    c.shift.ensures.cells

pub returns-in_err-shift-clause-unchanged : goal.returns-in_err-shift-clause-unchanged
returns-in_err-shift-clause-unchanged g c =
    let e = err_from_is_err_and c.from_residual-in_err-shift.result c.from_residual-in_err-shift.ensures.1 in
    rw e.1
    (same_tables c.self.invariant c.self.view_is c.shift.new.tables.borders c.shift.new.tables.vertices c.shift.new.tables.index.cells c.shift.ensures.borders (ap (λ t. t.vertices) c.in_err-shift.ensures.unchanged) c.shift.ensures.cells)
