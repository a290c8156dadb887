use Rattle.kit_words.proofs.Common.{◌≡◌, ◌++◌, ◌∷◌, [], ◌∙◌, ◌+◌, refl, sym, ap, subst, take, IsTrue, arith}
use Rattle.std.specs.FinMap as table
use Rattle.vertex_index.specs.Common.{place}
use Rattle.grid_geometry.specs.Common.{segment}
use Rattle.arc_tables.specs.Common.{edges, users_of}
use Rattle.ring_store.specs.Common.{sides}
use Rattle.ring_store.proofs.Common.{length-edges, edge_joins, used_side}
use Rattle.local_planarity.specs.Common.{IsFilled}
use Rattle.map_opening.proofs.FilledLists.{sides_none, sides_more, sides_there, sides_all, still_held}
use Rattle.map_opening.proofs.filling.fill_ring.Goals as goal
use Rattle.map_opening.proofs.filling.fill_ring.Goals.{then-uses_along-eq0+in_ok-fill, else-uses_along-eq0}

pub loop-at-init : goal.loop-at-init
loop-at-init g c = record {
  filled = λ ss known f. sides_none c.args.tables.now.vertices c.args.keys.now c.requires.round 0 c.args.tables.now.index.held c.args.first.now ss f;
  vertices = refl;
  borders = refl;
  cells = refl;
}

pub side-s-requires-clause-a : goal.side-s-requires-clause-a
side-s-requires-clause-a g c =
    subst (λ p. IsTrue (table.contains_key p c.edge_at-a.result.0)) (sym c.loop-at.invariant.vertices)
    (edge_joins c.args.tables.now.vertices c.args.keys.now c.requires.round c.loop-at.at c.edge_at-a.result
    (omega (arith, c.loop-at-test.true, length-edges c.args.keys.now (omega (arith, c.loop-at-test.true)))) c.edge_at-a.ensures).0

pub side-s-requires-clause-b : goal.side-s-requires-clause-b
side-s-requires-clause-b g c =
    subst (λ p. IsTrue (table.contains_key p c.edge_at-a.result.1)) (sym c.loop-at.invariant.vertices)
    (edge_joins c.args.tables.now.vertices c.args.keys.now c.requires.round c.loop-at.at c.edge_at-a.result
    (omega (arith, c.loop-at-test.true, length-edges c.args.keys.now (omega (arith, c.loop-at-test.true)))) c.edge_at-a.ensures).1

pub side-s-requires-clause-apart : goal.side-s-requires-clause-apart
side-s-requires-clause-apart g c =
    (edge_joins c.args.tables.now.vertices c.args.keys.now c.requires.round c.loop-at.at c.edge_at-a.result
    (omega (arith, c.loop-at-test.true, length-edges c.args.keys.now (omega (arith, c.loop-at-test.true)))) c.edge_at-a.ensures).2

pub loop-at-preserved : goal.loop-at-preserved
loop-at-preserved g c =
    let places = c.args.tables.now.vertices in
    let keys = c.args.keys.now in
    let at = c.loop-at.at in
    let e = c.edge_at-a.result in
    let before = c.loop-at.tables in
    elim c.if-uses_along-eq0.branch [
      | then-uses_along-eq0+in_ok-fill w ↦ record {
        filled = λ ss known f.
            let so_far = ss ++ sides places (take at (edges keys)) in
            let is : w.side-s.result ≡ segment (place places e.0) (place places e.1)
            = w.side-s.ensures ∙ ap (λ p. segment (place p e.0) (place p e.1)) c.loop-at.invariant.vertices in
            subst (λ z. IsFilled z.index.held c.if-uses_along-eq0.first (ss ++ sides places (take (at + 1) (edges keys)))) (sym w.tables-is)
            (subst (λ z. IsFilled w.fill.new.index.held z (ss ++ sides places (take (at + 1) (edges keys)))) (sym w.first-is)
            (sides_more places keys c.requires.round at w.fill.new.index.held w.fill.new.first ss c.loop-at-test.true e c.edge_at-a.ensures
            (subst (λ z. IsFilled w.fill.new.index.held w.fill.new.first (so_far ++ z ∷ [])) is
            (w.in_ok-fill.ensures.filled so_far (c.loop-at.invariant.filled ss known f)))));
        vertices = ap (λ z. z.vertices) w.tables-is ∙ c.loop-at.invariant.vertices;
        borders = ap (λ z. z.borders) w.tables-is ∙ c.loop-at.invariant.borders;
        cells = ap (λ z. z.index.cells) w.tables-is ∙ w.fill.ensures.cells ∙ c.loop-at.invariant.cells;
      }
      | else-uses_along-eq0 w ↦ record {
        filled = λ ss known f.
            let m = c.args.tables.now.borders in
            let so_far = c.loop-at.invariant.filled ss known f in
            let side = used_side places m e.0 e.1
            (λ none. w.if-uses_along-eq0.false (c.uses_along.ensures ∙ ap (λ z. users_of z e.0 e.1) c.loop-at.invariant.borders ∙ none)) in
            let held = still_held c.args.tables.now.index.held before.index.held c.args.first.now c.loop-at.first ss (sides places (take at (edges keys))) f so_far _ (known _ side) in
            subst (λ z. IsFilled z.index.held c.if-uses_along-eq0.first (ss ++ sides places (take (at + 1) (edges keys)))) (sym w.tables-is)
            (subst (λ z. IsFilled before.index.held z (ss ++ sides places (take (at + 1) (edges keys)))) (sym w.first-is)
            (sides_there places keys c.requires.round at before.index.held c.loop-at.first ss c.loop-at-test.true e c.edge_at-a.ensures held so_far));
        vertices = ap (λ z. z.vertices) w.tables-is ∙ c.loop-at.invariant.vertices;
        borders = ap (λ z. z.borders) w.tables-is ∙ c.loop-at.invariant.borders;
        cells = ap (λ z. z.index.cells) w.tables-is ∙ c.loop-at.invariant.cells;
      }
    ]

pub returns-clause-filled : goal.returns-clause-filled
returns-clause-filled g c ss known f =
    sides_all c.args.tables.now.vertices c.args.keys.now c.requires.round c.loop-at.at c.loop-at.tables.index.held c.loop-at.first ss
    (omega (arith, c.loop-at-test.false)) (c.loop-at.invariant.filled ss known f)
