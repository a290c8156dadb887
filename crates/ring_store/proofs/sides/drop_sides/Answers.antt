use Rattle.kit_words.proofs.Common.{◌≡◌, ◌+◌, ◌-◌, ◌∙◌, subst, take, arith}
use Rattle.arc_tables.specs.Common.{edges}
use Rattle.ring_store.specs.Common.{HoldsWith}
use Rattle.ring_store.proofs.SideSteps.{joins, side_held, side_dropped, side_left}
use Rattle.ring_store.proofs.sides.drop_sides.Goals as goal

pub side-requires-clause-a : goal.side-requires-clause-a
side-requires-clause-a g c =
    (joins c.args.vertices.now c.args.borders.now c.requires.keyed c.args.keys.now c.requires.round (c.loop-left.left - 1) (omega (arith, c.loop-left-test.true, c.loop-left.invariant.within)) c.edge_at-a.result c.edge_at-a.ensures).0

pub side-requires-clause-b : goal.side-requires-clause-b
side-requires-clause-b g c =
    (joins c.args.vertices.now c.args.borders.now c.requires.keyed c.args.keys.now c.requires.round (c.loop-left.left - 1) (omega (arith, c.loop-left-test.true, c.loop-left.invariant.within)) c.edge_at-a.result c.edge_at-a.ensures).1

pub side-requires-clause-apart : goal.side-requires-clause-apart
side-requires-clause-apart g c =
    (joins c.args.vertices.now c.args.borders.now c.requires.keyed c.args.keys.now c.requires.round (c.loop-left.left - 1) (omega (arith, c.loop-left-test.true, c.loop-left.invariant.within)) c.edge_at-a.result c.edge_at-a.ensures).2

pub discard-requires : goal.discard-requires
discard-requires g c =
    let before : c.loop-left.left ≡ c.loop-left.left - 1 + 1 = omega (arith, c.loop-left-test.true) in
    let holds = subst (λ n. HoldsWith c.args.vertices.now c.args.borders.now (g.I.SegIndex.held c.loop-left.index) (take n (edges c.args.keys.now))) before c.loop-left.invariant.holds in
    side_held c.args.vertices.now c.args.borders.now c.requires.keyed c.args.keys.now c.requires.round (c.loop-left.left - 1) (omega (arith, c.loop-left-test.true, c.loop-left.invariant.within)) c.edge_at-a.result c.edge_at-a.ensures
    c.uses_along.result c.uses_along.ensures (g.I.SegIndex.held c.loop-left.index)
    holds c.side.result c.side.ensures

pub loop-left-preserved-then-uses_along-eq0 : goal.loop-left-preserved-then-uses_along-eq0
loop-left-preserved-then-uses_along-eq0 g c =
    let before : c.loop-left.left ≡ c.loop-left.left - 1 + 1 = omega (arith, c.loop-left-test.true) in
    let holds = subst (λ n. HoldsWith c.args.vertices.now c.args.borders.now (g.I.SegIndex.held c.loop-left.index) (take n (edges c.args.keys.now))) before c.loop-left.invariant.holds in
    record {
      within = omega (arith, c.loop-left.invariant.within);
      holds = side_dropped c.args.vertices.now c.args.borders.now c.requires.keyed c.args.keys.now c.requires.round (c.loop-left.left - 1) (omega (arith, c.loop-left-test.true, c.loop-left.invariant.within)) c.edge_at-a.result c.edge_at-a.ensures
          c.uses_along.result c.uses_along.ensures (g.I.SegIndex.held c.loop-left.index)
          c.if-uses_along-eq0.true holds c.side.result c.side.ensures (g.I.SegIndex.held c.discard.new.self) c.discard.ensures.removed;
      cells = c.discard.ensures.cells ∙ c.loop-left.invariant.cells;
    }

pub loop-left-preserved : goal.loop-left-preserved
loop-left-preserved g c =
    let before : c.loop-left.left ≡ c.loop-left.left - 1 + 1 = omega (arith, c.loop-left-test.true) in
    let holds = subst (λ n. HoldsWith c.args.vertices.now c.args.borders.now (g.I.SegIndex.held c.loop-left.index) (take n (edges c.args.keys.now))) before c.loop-left.invariant.holds in
    record {
      within = omega (arith, c.loop-left.invariant.within);
      holds = side_left c.args.vertices.now c.args.borders.now c.requires.keyed c.args.keys.now c.requires.round (c.loop-left.left - 1) (omega (arith, c.loop-left-test.true, c.loop-left.invariant.within)) c.edge_at-a.result c.edge_at-a.ensures
          c.uses_along.result c.uses_along.ensures (g.I.SegIndex.held c.loop-left.index)
          c.if-uses_along-eq0.false holds;
      cells = c.loop-left.invariant.cells;
    }
