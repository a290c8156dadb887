use Rattle.kit_words.proofs.Common.{sym, ap, ◌∙◌, arith, leading_from_mask_l, count_trailing_zeros}
use Rattle.json_spans.specs.Common.{is_quote}
use Rattle.json_spans.proofs.Lanes.{before_first}
use Rattle.json_spans.proofs.blocks.unquoted_lanes.Goals as goal

pub returns-then-mask-eq0 : goal.returns-then-mask-eq0
returns-then-mask-eq0 c = sym (leading_from_mask_l is_quote c.args.v (sym c.quotes-mask.ensures ∙ c.if-mask-eq0.true) ∙ c.fits-v.0)

pub returns-else-mask-eq0 : goal.returns-else-mask-eq0
returns-else-mask-eq0 c =
    ap (count_trailing_zeros 64) c.quotes-mask.ensures ∙ before_first is_quote c.args.v (omega (arith, c.fits-v.0)) (omega (arith, c.quotes-mask.ensures, c.if-mask-eq0.false))
