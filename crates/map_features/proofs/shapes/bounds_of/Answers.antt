use Rattle.kit_words.proofs.Common.{subst, arith, All, take_all}
use Rattle.map_features.specs.Common.{ShapeIn}
use Rattle.map_features.proofs.WithinLemmas.{all_more, shape_stays}
use Rattle.map_features.proofs.shapes.bounds_of.Goals as goal

pub loop-shape-init : goal.loop-shape-init
loop-shape-init g c = record { new = λ k d l. absurd (omega arith); kept = λ p h. h }

pub loop-shape-preserved : goal.loop-shape-preserved
loop-shape-preserved g c =
    let new = c.with_polygons-bounds.result in
    record {
      new =
          all_more (ShapeIn c.loop-shape.bounds) (ShapeIn new) (shape_stays c.loop-shape.bounds new c.with_polygons-bounds.ensures.kept) c.args.shapes.now c.loop-shape.shape-index c.shape-item.result c.loop-shape-test.true c.shape-item.is c.loop-shape.invariant.new
          c.with_polygons-bounds.ensures.new;
      kept = λ p h. c.with_polygons-bounds.ensures.kept p (c.loop-shape.invariant.kept p h);
    }

pub returns-clause-new : goal.returns-clause-new
returns-clause-new g c = subst (All (ShapeIn c.loop-shape.bounds)) (take_all c.loop-shape.shape-index c.args.shapes.now c.loop-shape-test.false) c.loop-shape.invariant.new

pub returns-clause-kept : goal.returns-clause-kept
returns-clause-kept g c = c.loop-shape.invariant.kept
