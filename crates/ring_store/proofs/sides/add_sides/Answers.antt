use Rattle.kit_words.proofs.Common.{◌+◌, ◌∙◌, ap, sym, subst, take, arith, take_all}
use Rattle.arc_tables.specs.Common.{edges}
use Rattle.ring_store.specs.Common.{HoldsWith}
use Rattle.ring_store.proofs.Edges.{length-edges}
use Rattle.ring_store.proofs.SideSteps.{joins, side_new, side_added, side_there}
use Rattle.ring_store.proofs.sides.add_sides.Goals as goal
use Rattle.ring_store.proofs.sides.add_sides.Goals.{then-uses_along-eq0+in_default, else-uses_along-eq0}

pub side-requires-clause-a : goal.side-requires-clause-a
side-requires-clause-a g c =
    (joins c.args.vertices.now c.args.borders.now c.requires.keyed c.args.keys.now c.requires.round c.loop-at.at c.loop-at-test.true c.edge_at-a.result c.edge_at-a.ensures).0

pub side-requires-clause-b : goal.side-requires-clause-b
side-requires-clause-b g c =
    (joins c.args.vertices.now c.args.borders.now c.requires.keyed c.args.keys.now c.requires.round c.loop-at.at c.loop-at-test.true c.edge_at-a.result c.edge_at-a.ensures).1

pub side-requires-clause-apart : goal.side-requires-clause-apart
side-requires-clause-apart g c =
    (joins c.args.vertices.now c.args.borders.now c.requires.keyed c.args.keys.now c.requires.round c.loop-at.at c.loop-at-test.true c.edge_at-a.result c.edge_at-a.ensures).2

pub add-requires : goal.add-requires
add-requires g c =
    side_new c.args.vertices.now c.args.borders.now c.requires.keyed c.args.keys.now c.requires.round c.loop-at.at c.loop-at-test.true c.edge_at-a.result c.edge_at-a.ensures
    c.uses_along.result c.uses_along.ensures (g.I.SegIndex.held c.loop-at.index)
    c.if-uses_along-eq0.true c.loop-at.invariant.holds c.side.result c.side.ensures

pub drop_sides-requires-clause-holds : goal.drop_sides-requires-clause-holds
drop_sides-requires-clause-holds g c =
    subst (λ held. HoldsWith c.args.vertices.now c.args.borders.now held (take c.loop-at.at (edges c.args.keys.now))) (sym c.in-Err.ensures.unchanged) c.loop-at.invariant.holds

pub loop-at-preserved : goal.loop-at-preserved
loop-at-preserved g c =
    elim c.if-uses_along-eq0.branch [
      | then-uses_along-eq0+in_default w ↦ record {
        holds = subst (λ index. HoldsWith c.args.vertices.now c.args.borders.now (g.I.SegIndex.held index) (take (c.loop-at.at + 1) (edges c.args.keys.now))) (sym w.index-is)
            (side_added c.args.vertices.now c.args.borders.now c.requires.keyed c.args.keys.now c.requires.round c.loop-at.at c.loop-at-test.true c.edge_at-a.result c.edge_at-a.ensures
            c.uses_along.result c.uses_along.ensures (g.I.SegIndex.held c.loop-at.index)
            w.if-uses_along-eq0.true c.loop-at.invariant.holds w.side.result w.side.ensures (g.I.SegIndex.held w.add.new.self) w.in_default.ensures.added);
        cells = ap g.I.SegIndex.cells w.index-is ∙ w.add.ensures.cells ∙ c.loop-at.invariant.cells;
      }
      | else-uses_along-eq0 w ↦ record {
        holds = subst (λ index. HoldsWith c.args.vertices.now c.args.borders.now (g.I.SegIndex.held index) (take (c.loop-at.at + 1) (edges c.args.keys.now))) (sym w.index-is)
            (side_there c.args.vertices.now c.args.borders.now c.requires.keyed c.args.keys.now c.requires.round c.loop-at.at c.loop-at-test.true c.edge_at-a.result c.edge_at-a.ensures
            c.uses_along.result c.uses_along.ensures (g.I.SegIndex.held c.loop-at.index)
            w.if-uses_along-eq0.false c.loop-at.invariant.holds);
        cells = ap g.I.SegIndex.cells w.index-is ∙ c.loop-at.invariant.cells;
      }
    ]

pub returns-clause-holds : goal.returns-clause-holds
returns-clause-holds g c =
    subst (HoldsWith c.args.vertices.now c.args.borders.now (g.I.SegIndex.held c.loop-at.index))
    (take_all c.loop-at.at (edges c.args.keys.now) (omega (arith, c.loop-at-test.false, c.requires.round.long, length-edges c.args.keys.now (omega (arith, c.requires.round.long)))))
    c.loop-at.invariant.holds
