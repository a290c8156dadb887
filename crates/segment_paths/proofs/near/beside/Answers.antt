use Rattle.kit_words.proofs.Common.{◌∙◌, ap, refl}
use Rattle.grid_geometry.specs.Common.{orientation}
use Rattle.segment_paths.specs.Common.{beside}
use Rattle.segment_paths.proofs.Widths.{difference_is, difference_bound, narrow_is}
use Rattle.segment_paths.proofs.near.beside.Goals as goal

pub returns : goal.returns
unfolding orientation
returns c =
    let s = c.s.inside in
    let hl = c.product-left.ensures.bound in
    let hr = c.product-right.ensures.bound in
    let e = c.abs_diff.ensures ∙ difference_is c.product-left.result c.product-right.result hl hr in
    record {
      value = e ∙ rw (c.product-left.ensures.value, c.product-right.ensures.value, narrow_is c.across.result c.across.ensures.bound, narrow_is c.upward.result c.upward.ensures.bound, narrow_is c.across-2.result c.across-2.ensures.bound, narrow_is c.upward-2.result c.upward-2.ensures.bound, c.across.ensures.value, c.upward.ensures.value, c.across-2.ensures.value, c.upward-2.ensures.value) refl ∙ ap (λ s. beside s c.args.p) c.s.view_is;
      bound = rw e (difference_bound c.product-left.result c.product-right.result hl hr);
    }
