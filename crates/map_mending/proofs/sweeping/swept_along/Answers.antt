use Rattle.kit_words.proofs.Common.{◌+◌, ◌∷◌, ◌++◌, [], arith, sym, ap, ◌∙◌, subst, AllByRecursion}
use Rattle.std.specs.Prelude.{sum_by}
use Rattle.grid_geometry.specs.Common.{links, Segment}
use Rattle.map_mending.specs.Common.{triangle, IsBeside}
use Rattle.map_mending.proofs.Beside.{way_beside}
use Rattle.map_mending.proofs.StepByStep.{link_next, beside_next, along_end}
use Rattle.map_mending.proofs.sweeping.swept_along.Goals as goal

pub loop-to-init : goal.loop-to-init
loop-to-init c =
    let s = c.args.segment in
    let inner = c.args.inner.now in
    record {
      whole = ap (λ (t : Segment). 0 + sum_by (triangle s.hi) (links (t.lo ∷ inner ++ s.hi ∷ []))) c.segment.view_is ∙ omega arith;
      bound = omega arith;
      beside = λ some. subst (λ (t : Segment). AllByRecursion (IsBeside s) (t.lo ∷ inner)) (sym c.segment.view_is) (way_beside s inner (c.requires some)).1;
    }

pub triangle-sum-requires-clause-long : goal.triangle-sum-requires-clause-long
triangle-sum-requires-clause-long c = (way_beside c.args.segment c.args.inner.now (c.requires (omega (arith, c.loop-to-test.true)))).0

pub triangle-sum-requires-clause-from : goal.triangle-sum-requires-clause-from
triangle-sum-requires-clause-from c = (c.loop-to.invariant.beside (omega (arith, c.loop-to-test.true))).0

pub triangle-sum-requires-clause-to : goal.triangle-sum-requires-clause-to
triangle-sum-requires-clause-to c =
    (beside_next c.args.segment c.loop-to.from c.to-item.result c.args.inner.now c.loop-to.to-index c.loop-to-test.true c.to-item.is
    (c.loop-to.invariant.beside (omega (arith, c.loop-to-test.true)))).1.0

pub loop-to-preserved : goal.loop-to-preserved
loop-to-preserved c = record {
  whole = link_next (triangle c.args.segment.hi) c.loop-to.from c.to-item.result c.args.segment.hi c.args.inner.now c.loop-to.to-index c.loop-to.sum c.triangle-sum.result _
      c.loop-to-test.true c.to-item.is c.triangle-sum.ensures.value c.loop-to.invariant.whole;
  bound = omega (arith, c.loop-to.invariant.bound, c.triangle-sum.ensures.bound);
  beside = λ some. (beside_next c.args.segment c.loop-to.from c.to-item.result c.args.inner.now c.loop-to.to-index c.loop-to-test.true c.to-item.is (c.loop-to.invariant.beside some)).1;
}

pub returns : goal.returns
returns c = record {
  value = along_end c.args.segment c.loop-to.from c.args.inner.now c.loop-to.to-index c.loop-to.sum _ c.loop-to-test.false c.loop-to.invariant.whole;
  bound = omega (arith, c.loop-to.invariant.bound, c.loop-to.auto.to-index-end);
}
