use Rattle.kit_words.proofs.Common.{◌∙◌, ◌||◌, ap, ap₂, sym, list_any, take_all, list_any_at, list_any_more}
use Rattle.ring_machine.specs.Common.{all_segments, edge_sweeps, crosses_on_way}
use Rattle.local_planarity.proofs.NearMoves.{near_edge, near_way}
use Rattle.local_planarity.proofs.moving.move_sweeps.Goals as goal

pub loop-a-preserved : goal.loop-a-preserved
loop-a-preserved g c = λ d held m ends.
    list_any_more (edge_sweeps d c.args.p c.args.q) c.args.around.now c.loop-a.a-index c.a-item.result c.loop-a-test.true
    ∙ ap₂ (λ a b. a || b) (c.loop-a.invariant d held m ends)
    (ap (edge_sweeps d c.args.p c.args.q) (sym c.a-item.is) ∙ sym (near_edge d held c.args.near.now c.args.p c.args.q c.args.around.now m ends c.loop-a.a-index c.a-item.result c.loop-a-test.true c.a-item.is c.segments.result.now _ c.segments.ensures.held c.holds_end.ensures) ∙ c.if-holds_end.false)

pub returns-then-holds_end-clause-sweeps : goal.returns-then-holds_end-clause-sweeps
returns-then-holds_end-clause-sweeps g c = λ d held m ends all.
    ap (λ b. b || crosses_on_way d c.args.p c.args.q)
    (sym (list_any_at (edge_sweeps d c.args.p c.args.q) c.args.around.now c.loop-a.a-index c.a-item.result c.loop-a-test.true
    (ap (edge_sweeps d c.args.p c.args.q) (sym c.a-item.is) ∙ sym (near_edge d held c.args.near.now c.args.p c.args.q c.args.around.now m ends c.loop-a.a-index c.a-item.result c.loop-a-test.true c.a-item.is c.segments.result.now _ c.segments.ensures.held c.holds_end.ensures) ∙ c.if-holds_end.true)))

-- no edge sweeps over a position, so the way decides
pub returns-clause-sweeps : goal.returns-clause-sweeps
returns-clause-sweeps g c = λ d held m ends all.
    near_way held c.args.near.now c.args.p c.args.q _ m c.crosses_on_way.result c.crosses_on_way.ensures.crosses (all_segments d) all
    ∙ ap (λ b. b || crosses_on_way d c.args.p c.args.q)
    (sym (c.loop-a.invariant d held m ends) ∙ ap (list_any (edge_sweeps d c.args.p c.args.q)) (take_all c.loop-a.a-index c.args.around.now c.loop-a-test.false))
