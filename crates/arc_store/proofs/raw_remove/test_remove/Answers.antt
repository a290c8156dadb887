use Rattle.kit_words.proofs.Common.{◌≡◌, ◌∙◌, sym, ap, subst, [], ◌∷◌, not, None}
use Rattle.grid_geometry.specs.Common.{Segment}
use Rattle.ring_machine.specs.Common.{Sweeps, first_of, conflict_of, ◌unless◌}
use Rattle.segment_index.specs.Common.{times_by}
use Rattle.local_planarity.specs.Common.{HasNearMove}
use Rattle.local_planarity.proofs.NearMoves.{near_apart, near_first, near_tests}
use Rattle.arc_store.specs.Common.{Refuses}
use Rattle.arc_store.proofs.CornerLemmas.{corner_held}
use Rattle.arc_store.proofs.RemovalJudged.{remove_refused, remove_decided}
use Rattle.arc_store.proofs.raw_remove.test_remove.Goals as goal

pub near_move-requires : goal.near_move-requires
near_move-requires g c = λ e. c.requires.away (e ∙ ap (λ (z : Segment). z.lo) c.after.view_is)

pub test_near-requires : goal.test_near-requires
test_near-requires g c =
    near_apart (g.I.SegIndex.held c.args.index.now) c.in_ok-near.near c.args.p _ (c.args.after ∷ []) c.in_ok-near.ensures.near c.requires.apart

pub returns-then-holds_end-clause-refused : goal.returns-then-holds_end-clause-refused
returns-then-holds_end-clause-refused g c = λ d i.
    let held = g.I.SegIndex.held c.args.index.now in
    let ends : Segment = record { lo = c.after.inside.lo; hi = c.after.inside.hi } in
    remove_decided d held c.args.p c.args.after i ends c.after.view_is c.holds_end.result
    (near_first held c.in_ok-near.near c.args.p _ (c.args.after ∷ []) c.in_ok-near.ensures.near c.requires.apart (λ o. o ≡ None) c.in-Ok.ensures.apart)
    (corner_held held c.in_ok-near.near c.args.p ends (subst (λ z. HasNearMove held c.args.p ends.lo (z ∷ []) c.in_ok-near.near) (sym c.after.view_is) c.in_ok-near.ensures.near) c.segments.result.now c.holds_end.result c.segments.ensures.held c.holds_end.ensures)
    ∙ ap (λ y. first_of ((Sweeps unless not y) ∷ [])) c.if-holds_end.true

pub returns-in-Ok-clause-accepted : goal.returns-in-Ok-clause-accepted
returns-in-Ok-clause-accepted g c = λ d i.
    let held = g.I.SegIndex.held c.args.index.now in
    let ends : Segment = record { lo = c.after.inside.lo; hi = c.after.inside.hi } in
    remove_decided d held c.args.p c.args.after i ends c.after.view_is c.holds_end.result
    (near_first held c.in_ok-near.near c.args.p _ (c.args.after ∷ []) c.in_ok-near.ensures.near c.requires.apart (λ o. o ≡ None) c.in-Ok.ensures.apart)
    (corner_held held c.in_ok-near.near c.args.p ends (subst (λ z. HasNearMove held c.args.p ends.lo (z ∷ []) c.in_ok-near.near) (sym c.after.view_is) c.in_ok-near.ensures.near) c.segments.result.now c.holds_end.result c.segments.ensures.held c.holds_end.ensures)
    ∙ ap (λ y. first_of ((Sweeps unless not y) ∷ [])) c.if-holds_end.false

pub returns-clause-refused : goal.returns-clause-refused
returns-clause-refused g c = λ d i.
    let held = g.I.SegIndex.held c.args.index.now in
    remove_refused d held c.args.p c.args.after i c.in-Err.fault
    (near_first held c.in_ok-near.near c.args.p _ (c.args.after ∷ []) c.in_ok-near.ensures.near c.requires.apart (λ o. Refuses c.in-Err.fault (conflict_of o)) c.in-Err.ensures.refused)

-- ---- how many tests

pub returns-then-holds_end-clause-few : goal.returns-then-holds_end-clause-few
returns-then-holds_end-clause-few g c =
    near_tests (g.I.SegIndex.held c.args.index.now) c.in_ok-near.near c.args.p _ (c.args.after ∷ []) c.in_ok-near.ensures.near (times_by (g.I.SegIndex.cells c.args.index.now)) c.in_ok-near.ensures.no_less _ _ c.test_near.ensures.few

pub returns-in-Ok-clause-few : goal.returns-in-Ok-clause-few
returns-in-Ok-clause-few g c =
    near_tests (g.I.SegIndex.held c.args.index.now) c.in_ok-near.near c.args.p _ (c.args.after ∷ []) c.in_ok-near.ensures.near (times_by (g.I.SegIndex.cells c.args.index.now)) c.in_ok-near.ensures.no_less _ _ c.test_near.ensures.few

pub returns-clause-few : goal.returns-clause-few
returns-clause-few g c =
    near_tests (g.I.SegIndex.held c.args.index.now) c.in_ok-near.near c.args.p _ (c.args.after ∷ []) c.in_ok-near.ensures.near (times_by (g.I.SegIndex.cells c.args.index.now)) c.in_ok-near.ensures.no_less _ _ c.test_near.ensures.few
