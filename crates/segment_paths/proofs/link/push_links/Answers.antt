use Rattle.kit_words.proofs.Common.{Contains, subst, sym, ap, arith}
use Rattle.grid_geometry.specs.Common.{segment}
use Rattle.segment_paths.specs.Common.{IsKnown, links_of}
use Rattle.segment_paths.proofs.Led.{at_place, lo_known, hi_known}
use Rattle.segment_paths.proofs.Linked.{mid_link, last_link, next_at}
use Rattle.segment_paths.proofs.link.push_links.Goals as goal

pub loop-to-init : goal.loop-to-init
loop-to-init g c = record {
  reached = ap (λ s. s.lo) c.owner.view_is;
  pieces = λ ss paths h there known same. (h, subst (λ s. IsKnown ss s.lo) (sym c.owner.view_is) (lo_known ss c.args.owner there));
}

pub loop-to-preserved : goal.loop-to-preserved
loop-to-preserved g c = record {
  reached = next_at c.args.owner.lo c.args.inner.now c.loop-to.to-index _ c.to-item.result (omega arith) c.to-item.is;
  pieces = λ ss paths h there known same.
      let k = c.loop-to.invariant.pieces ss paths h there known same in
      let to = at_place (IsKnown ss) c.args.inner.now c.loop-to.to-index c.to-item.result known c.loop-to-test.true c.to-item.is in
      let link = mid_link paths c.args.owner c.args.inner.now c.loop-to.to-index c.loop-to.from c.to-item.result same c.loop-to-test.true c.loop-to.invariant.reached c.to-item.is in
      (c.in_ok-push_link.ensures ss paths k.0 there k.1 to link, to);
}

pub returns : goal.returns
returns g c ss paths h there known same =
    let k = c.loop-to.invariant.pieces ss paths h there known same in
    let link = last_link paths c.args.owner c.args.inner.now c.loop-to.to-index c.loop-to.from same (omega (arith, c.loop-to.auto.to-index-end, c.loop-to-test.false)) c.loop-to.invariant.reached in
    c.in_ok-push_link-2.ensures ss paths k.0 there k.1 (subst (λ s. IsKnown ss s.hi) (sym c.owner-2.view_is) (hi_known ss c.args.owner there))
    (subst (λ s. Contains (links_of paths c.args.owner) (segment c.loop-to.from s.hi)) (sym c.owner-2.view_is) link)
