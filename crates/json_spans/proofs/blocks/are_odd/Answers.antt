use Rattle.kit_words.proofs.Common.{◌≡◌, ◌≤◌, ◌*◌, ◌%◌, ◌^◌, take, ap, ap₂, ◌∙◌, arith, pow-le-pow_right, ones-mask_l}
use Rattle.kit_words.proofs.Common.{◌==◌}
use Rattle.std.specs.Int.RustNames.{count_ones}
use Rattle.json_spans.specs.Common.{is_quote}
use Rattle.json_spans.proofs.Lanes.{mask_take}
use Rattle.json_spans.proofs.blocks.are_odd.Goals as goal

pub returns : goal.returns
returns c =
    let low : 2 ^ c.args.len ≤ 2 ^ 32 = pow-le-pow_right (omega arith) c.requires in
    let small : 1 * 2 ^ c.args.len % 2 ^ 64 ≡ 2 ^ c.args.len = omega (arith, low) in
    ap (λ n. n % 2 == 1) (ap count_ones (ap₂ ◌%◌ c.quotes.ensures small ∙ mask_take is_quote c.args.len c.args.v) ∙ ones-mask_l is_quote (take c.args.len c.args.v))
