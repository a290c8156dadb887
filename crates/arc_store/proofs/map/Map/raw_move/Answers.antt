use Rattle.kit_words.proofs.Common.{◌≡◌, ◌∙◌, None, refl, sym, ap, subst, [], ◌∷◌, not}
use Rattle.ring_machine.specs.Common.{is_vertex, Sweeps, conflict_of, first_of, ◌unless◌}
use Rattle.segment_index.specs.Common.{AreAmong, AreSingle, times_by}
use Rattle.local_planarity.specs.Common.{HasNearMove}
use Rattle.local_planarity.proofs.NearMoves.{near_apart, near_first, near_tests, near_way_tests}
use Rattle.feature_exchange.specs.Common.{stored}
use Rattle.ring_store.specs.Common.{AreNew, spokes}
use Rattle.arc_store.specs.Common.{Refuses, State}
use Rattle.arc_store.specs.declared.fault.EditFault.TheVariants as fault
use Rattle.arc_store.proofs.Accepted.{move_may}
use Rattle.arc_store.proofs.MovePlan.{held_apart, move_conflicts, move_decided}
use Rattle.arc_store.proofs.MovePlan.{has_moving, plan_new, plan_single, plan_held, plan_once, document_after, kept_after}
use Rattle.arc_store.proofs.Outcomes.{is_made, is_refused, hands_on}
use Rattle.arc_store.proofs.StateKept.{tested, with_record}
use Rattle.arc_store.proofs.Tested.{conflicts_few, sweeps_few}
use Rattle.arc_store.proofs.map.Map.raw_move.Goals as goal

pub read_moving-requires : goal.read_moving-requires
read_moving-requires g c =
    has_moving (stored c.self.inside.frame c.self.inside.rings.borders c.self.inside.rings.vertices) c.self.invariant.holds.whole c.args.p c.args.q
    (ap (λ z. is_vertex z.doc c.args.p) c.self.view_is ∙ c.requires.vertex)
    (ap (λ z. is_vertex z.doc c.args.q) c.self.view_is ∙ c.requires.free)

pub test_near-requires : goal.test_near-requires
test_near-requires g c =
    near_apart c.self.inside.rings.index.held c.in_ok-near.near c.args.p c.args.q c.as_slice-after.result.now c.in_ok-near.ensures.near
    (held_apart (stored c.self.inside.frame c.self.inside.rings.borders c.self.inside.rings.vertices) c.self.inside.rings.index.held c.self.invariant.holds)

pub shift-requires-clause-new : goal.shift-requires-clause-new
shift-requires-clause-new g c =
    let m = c.in_ok-moving.moving in
    let r = c.in_ok-moving.ensures.read in
    subst (AreNew c.self.inside.rings.index.held) (sym (c.as_slice-after.ensures.value ∙ r.comes))
    (plan_new (stored c.self.inside.frame c.self.inside.rings.borders c.self.inside.rings.vertices) c.self.inside.rings.index.held c.self.invariant.holds m.key c.args.p c.args.q r.here (ap (λ z. is_vertex z.doc c.args.q) c.self.view_is ∙ c.requires.free) m.around.items r.all)

pub shift-requires-clause-after_once : goal.shift-requires-clause-after_once
shift-requires-clause-after_once g c =
    let m = c.in_ok-moving.moving in
    let r = c.in_ok-moving.ensures.read in
    subst AreSingle (sym (c.as_slice-after.ensures.value ∙ r.comes))
    (plan_single (stored c.self.inside.frame c.self.inside.rings.borders c.self.inside.rings.vertices) c.self.inside.rings.index.held c.self.invariant.holds m.key c.args.p c.args.q r.here (ap (λ z. is_vertex z.doc c.args.q) c.self.view_is ∙ c.requires.free) m.around.items r.all)

pub shift-requires-clause-held : goal.shift-requires-clause-held
shift-requires-clause-held g c =
    let m = c.in_ok-moving.moving in
    let r = c.in_ok-moving.ensures.read in
    subst (AreAmong c.self.inside.rings.index.held) (sym (c.as_slice-before.ensures.value ∙ r.goes))
    (plan_held (stored c.self.inside.frame c.self.inside.rings.borders c.self.inside.rings.vertices) c.self.inside.rings.index.held c.self.invariant.holds m.key c.args.p c.args.q r.here (ap (λ z. is_vertex z.doc c.args.q) c.self.view_is ∙ c.requires.free) m.around.items r.all)

pub shift-requires-clause-before_once : goal.shift-requires-clause-before_once
shift-requires-clause-before_once g c =
    let m = c.in_ok-moving.moving in
    let r = c.in_ok-moving.ensures.read in
    subst AreSingle (sym (c.as_slice-before.ensures.value ∙ r.goes))
    (plan_once (stored c.self.inside.frame c.self.inside.rings.borders c.self.inside.rings.vertices) c.self.inside.rings.index.held c.self.invariant.holds m.key c.args.p c.args.q r.here (ap (λ z. is_vertex z.doc c.args.q) c.self.view_is ∙ c.requires.free) m.around.items r.all)

pub invariant_of-self-2 : goal.invariant_of-self-2
invariant_of-self-2 g c =
    let m = c.in_ok-moving.moving in
    let r = c.in_ok-moving.ensures.read in
    kept_after c.shift.result c.self.inside.frame c.self.inside.rings c.shift.new.tables c.self.inside.positions c.self.invariant c.args.self.now.doc (ap (λ z. z.doc) c.self.view_is) m.key c.args.p c.args.q r.here
    (move_may c.args.self.now.doc c.args.p c.args.q
    (move_decided (stored c.self.inside.frame c.self.inside.rings.borders c.self.inside.rings.vertices) c.self.inside.rings.index.held c.self.invariant.holds c.args.self.now.doc (ap (λ z. z.doc) c.self.view_is) m.key c.args.p c.args.q r.here c.requires.vertex c.requires.free m.around.items r.all c.as_slice-after.result.now
    (c.as_slice-after.ensures.value ∙ r.comes)
    c.as_slice-around.result.now c.as_slice-around.ensures.value c.move_sweeps.result (near_first c.self.inside.rings.index.held c.in_ok-near.near c.args.p c.args.q c.as_slice-after.result.now c.in_ok-near.ensures.near
    (held_apart (stored c.self.inside.frame c.self.inside.rings.borders c.self.inside.rings.vertices) c.self.inside.rings.index.held c.self.invariant.holds) (λ o. o ≡ None) c.in_ok-test_near.ensures.apart)
    (λ e. c.move_sweeps.ensures.sweeps e c.self.inside.rings.index.held
    (subst (λ ss. HasNearMove c.self.inside.rings.index.held c.args.p c.args.q ss c.in_ok-near.near) (c.as_slice-after.ensures.value ∙ r.comes ∙ ap (spokes c.args.q) (sym c.as_slice-around.ensures.value)) c.in_ok-near.ensures.near))
    ∙ ap (λ z. first_of ((Sweeps unless not z) ∷ [])) c.if-move_sweeps.false))
    m.around.items r.all c.as_slice-after.result.now c.as_slice-before.result.now (c.as_slice-after.ensures.value ∙ r.comes) (c.as_slice-before.ensures.value ∙ r.goes)
    c.shift.ensures.moved c.shift.ensures.exchanged c.shift.ensures.borders c.shift.ensures.unchanged

-- ---- what the edit makes

pub returns-in_err-test_near-clause-edits : goal.returns-in_err-test_near-clause-edits
returns-in_err-test_near-clause-edits g c =
    let m = c.in_ok-moving.moving in
    let r = c.in_ok-moving.ensures.read in
    hands_on c.in_err-test_near.field-0.0 c.from_residual-in_err-test_near.result c.from_residual-in_err-test_near.ensures.1
    (move_conflicts (stored c.self.inside.frame c.self.inside.rings.borders c.self.inside.rings.vertices) c.self.inside.rings.index.held c.self.invariant.holds c.args.self.now.doc (ap (λ z. z.doc) c.self.view_is) m.key c.args.p c.args.q r.here c.requires.vertex c.requires.free m.around.items r.all c.as_slice-after.result.now
    (c.as_slice-after.ensures.value ∙ r.comes) c.in_err-test_near.field-0.0
    (near_first c.self.inside.rings.index.held c.in_ok-near.near c.args.p c.args.q c.as_slice-after.result.now c.in_ok-near.ensures.near
    (held_apart (stored c.self.inside.frame c.self.inside.rings.borders c.self.inside.rings.vertices) c.self.inside.rings.index.held c.self.invariant.holds) (λ o. Refuses c.in_err-test_near.field-0.0 (conflict_of o)) c.in_err-test_near.ensures.refused))
    (tested c.self.invariant c.self.view_is c.self.inside.rings.borders c.self.inside.rings.vertices c.self.inside.rings.index.cells c.test_near.new.tests refl refl refl)

pub returns-then-move_sweeps-clause-edits : goal.returns-then-move_sweeps-clause-edits
returns-then-move_sweeps-clause-edits g c =
    let m = c.in_ok-moving.moving in
    let r = c.in_ok-moving.ensures.read in
    is_refused
    (move_decided (stored c.self.inside.frame c.self.inside.rings.borders c.self.inside.rings.vertices) c.self.inside.rings.index.held c.self.invariant.holds c.args.self.now.doc (ap (λ z. z.doc) c.self.view_is) m.key c.args.p c.args.q r.here c.requires.vertex c.requires.free m.around.items r.all c.as_slice-after.result.now
    (c.as_slice-after.ensures.value ∙ r.comes)
    c.as_slice-around.result.now c.as_slice-around.ensures.value c.move_sweeps.result (near_first c.self.inside.rings.index.held c.in_ok-near.near c.args.p c.args.q c.as_slice-after.result.now c.in_ok-near.ensures.near
    (held_apart (stored c.self.inside.frame c.self.inside.rings.borders c.self.inside.rings.vertices) c.self.inside.rings.index.held c.self.invariant.holds) (λ o. o ≡ None) c.in_ok-test_near.ensures.apart)
    (λ e. c.move_sweeps.ensures.sweeps e c.self.inside.rings.index.held
    (subst (λ ss. HasNearMove c.self.inside.rings.index.held c.args.p c.args.q ss c.in_ok-near.near) (c.as_slice-after.ensures.value ∙ r.comes ∙ ap (spokes c.args.q) (sym c.as_slice-around.ensures.value)) c.in_ok-near.ensures.near))
    ∙ ap (λ z. first_of ((Sweeps unless not z) ∷ [])) c.if-move_sweeps.true)
    (tested c.self.invariant c.self.view_is c.self.inside.rings.borders c.self.inside.rings.vertices c.self.inside.rings.index.cells c.move_sweeps.new.tests refl refl refl)

pub returns-in_err-shift-clause-edits : goal.returns-in_err-shift-clause-edits
returns-in_err-shift-clause-edits g c =
    hands_on fault.OutOfMemory c.from_residual-in_err-shift.result c.from_residual-in_err-shift.ensures.1 tt
    (tested c.self.invariant c.self.view_is c.shift.new.tables.borders c.shift.new.tables.vertices c.shift.new.tables.index.cells c.move_sweeps.new.tests c.shift.ensures.borders (ap (λ t. t.vertices) c.in_err-shift.ensures.unchanged) c.shift.ensures.cells)

pub returns-clause-edits : goal.returns-clause-edits
returns-clause-edits g c =
    let m = c.in_ok-moving.moving in
    let r = c.in_ok-moving.ensures.read in
    is_made
    (move_decided (stored c.self.inside.frame c.self.inside.rings.borders c.self.inside.rings.vertices) c.self.inside.rings.index.held c.self.invariant.holds c.args.self.now.doc (ap (λ z. z.doc) c.self.view_is) m.key c.args.p c.args.q r.here c.requires.vertex c.requires.free m.around.items r.all c.as_slice-after.result.now
    (c.as_slice-after.ensures.value ∙ r.comes)
    c.as_slice-around.result.now c.as_slice-around.ensures.value c.move_sweeps.result (near_first c.self.inside.rings.index.held c.in_ok-near.near c.args.p c.args.q c.as_slice-after.result.now c.in_ok-near.ensures.near
    (held_apart (stored c.self.inside.frame c.self.inside.rings.borders c.self.inside.rings.vertices) c.self.inside.rings.index.held c.self.invariant.holds) (λ o. o ≡ None) c.in_ok-test_near.ensures.apart)
    (λ e. c.move_sweeps.ensures.sweeps e c.self.inside.rings.index.held
    (subst (λ ss. HasNearMove c.self.inside.rings.index.held c.args.p c.args.q ss c.in_ok-near.near) (c.as_slice-after.ensures.value ∙ r.comes ∙ ap (spokes c.args.q) (sym c.as_slice-around.ensures.value)) c.in_ok-near.ensures.near))
    ∙ ap (λ z. first_of ((Sweeps unless not z) ∷ [])) c.if-move_sweeps.false)
    (with_record c.self.invariant c.self.view_is c.shift.new.tables.borders c.shift.new.tables.vertices c.shift.new.tables.index.cells
    (document_after c.self.inside.frame c.self.inside.rings c.shift.new.tables c.self.invariant.holds.whole c.args.self.now.doc (ap (λ z. z.doc) c.self.view_is) m.key c.args.p c.args.q r.here c.requires.free c.shift.ensures.borders c.in_ok-shift.ensures.moved)
    c.shift.ensures.cells c.keep.ensures)

-- ---- how many tests

pub returns-in_err-test_near-clause-few : goal.returns-in_err-test_near-clause-few
returns-in_err-test_near-clause-few g c =
    let m = c.in_ok-moving.moving in
    let r = c.in_ok-moving.ensures.read in
    conflicts_few c.self.invariant c.self.view_is m.key c.args.p c.args.q r.here c.requires.free m.around.items r.all c.as_slice-after.result.now
    (c.as_slice-after.ensures.value ∙ r.comes) c.test_near.new.tests (near_tests c.self.inside.rings.index.held c.in_ok-near.near c.args.p c.args.q c.as_slice-after.result.now c.in_ok-near.ensures.near (times_by c.self.inside.rings.index.cells) c.in_ok-near.ensures.no_less _ _ c.test_near.ensures.few)

pub returns-then-move_sweeps-clause-few : goal.returns-then-move_sweeps-clause-few
returns-then-move_sweeps-clause-few g c =
    let m = c.in_ok-moving.moving in
    let r = c.in_ok-moving.ensures.read in
    sweeps_few c.self.invariant c.self.view_is m.key c.args.p c.args.q r.here c.requires.free m.around.items r.all c.as_slice-after.result.now
    (c.as_slice-after.ensures.value ∙ r.comes) c.test_near.new.tests (near_tests c.self.inside.rings.index.held c.in_ok-near.near c.args.p c.args.q c.as_slice-after.result.now c.in_ok-near.ensures.near (times_by c.self.inside.rings.index.cells) c.in_ok-near.ensures.no_less _ _ c.test_near.ensures.few) c.move_sweeps.new.tests (near_way_tests c.self.inside.rings.index.held c.in_ok-near.near c.args.p c.args.q c.as_slice-after.result.now c.in_ok-near.ensures.near (times_by c.self.inside.rings.index.cells) c.in_ok-near.ensures.no_less _ _ c.move_sweeps.ensures.few)

pub returns-in_err-shift-clause-few : goal.returns-in_err-shift-clause-few
returns-in_err-shift-clause-few g c =
    let m = c.in_ok-moving.moving in
    let r = c.in_ok-moving.ensures.read in
    sweeps_few c.self.invariant c.self.view_is m.key c.args.p c.args.q r.here c.requires.free m.around.items r.all c.as_slice-after.result.now
    (c.as_slice-after.ensures.value ∙ r.comes) c.test_near.new.tests (near_tests c.self.inside.rings.index.held c.in_ok-near.near c.args.p c.args.q c.as_slice-after.result.now c.in_ok-near.ensures.near (times_by c.self.inside.rings.index.cells) c.in_ok-near.ensures.no_less _ _ c.test_near.ensures.few) c.move_sweeps.new.tests (near_way_tests c.self.inside.rings.index.held c.in_ok-near.near c.args.p c.args.q c.as_slice-after.result.now c.in_ok-near.ensures.near (times_by c.self.inside.rings.index.cells) c.in_ok-near.ensures.no_less _ _ c.move_sweeps.ensures.few)

pub returns-clause-few : goal.returns-clause-few
returns-clause-few g c =
    let m = c.in_ok-moving.moving in
    let r = c.in_ok-moving.ensures.read in
    rw (ap (λ (s : State). s.tests) c.keep.ensures)
    (sweeps_few c.self.invariant c.self.view_is m.key c.args.p c.args.q r.here c.requires.free m.around.items r.all c.as_slice-after.result.now
    (c.as_slice-after.ensures.value ∙ r.comes) c.test_near.new.tests (near_tests c.self.inside.rings.index.held c.in_ok-near.near c.args.p c.args.q c.as_slice-after.result.now c.in_ok-near.ensures.near (times_by c.self.inside.rings.index.cells) c.in_ok-near.ensures.no_less _ _ c.test_near.ensures.few) c.move_sweeps.new.tests (near_way_tests c.self.inside.rings.index.held c.in_ok-near.near c.args.p c.args.q c.as_slice-after.result.now c.in_ok-near.ensures.near (times_by c.self.inside.rings.index.cells) c.in_ok-near.ensures.no_less _ _ c.move_sweeps.ensures.few))
