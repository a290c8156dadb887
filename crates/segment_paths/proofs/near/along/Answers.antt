use Rattle.kit_words.proofs.Common.{◌∙◌, ap, refl}
use Rattle.segment_paths.specs.Common.{along}
use Rattle.segment_paths.proofs.Widths.{sum_fits, sum_is, narrow_is}
use Rattle.segment_paths.proofs.near.along.Goals as goal

pub overflow_add-result : goal.overflow_add-result
overflow_add-result c = sum_fits c.product.result c.product-2.result c.product.ensures.bound c.product-2.ensures.bound

pub returns : goal.returns
unfolding along
returns c =
    sum_is c.product.result c.product-2.result c.product.ensures.bound c.product-2.ensures.bound
    ∙ rw (c.product.ensures.value, c.product-2.ensures.value, narrow_is c.across.result c.across.ensures.bound, narrow_is c.upward.result c.upward.ensures.bound, narrow_is c.across-2.result c.across-2.ensures.bound, narrow_is c.upward-2.result c.upward-2.ensures.bound, c.across.ensures.value, c.upward.ensures.value, c.across-2.ensures.value, c.upward-2.ensures.value) refl
    ∙ ap (λ s. along s c.args.q) c.s.view_is
