use Rattle.kit_words.proofs.Common.{◌-◌, ap, sym, ◌∙◌, length, drop, ◌&&◌, list_all}
use Rattle.json_spans.specs.Common.{is_zero}
use Rattle.decimal_texts.proofs.Cutting.{ends_is}
use Rattle.decimal_texts.proofs.decimal.Decimal.ends_at.Goals as goal

pub returns-then-are_zeros : goal.returns-then-are_zeros
returns-then-are_zeros c =
    let xs = c.args.self.now.integer.now in
    let ys = c.args.self.now.fraction.now in
    let before = c.if-are_zeros.ensures ∙ ap (list_all is_zero) c.behind.ensures in
    let later = c.are_zeros-then-are_zeros.ensures ∙ (ap (list_all is_zero) c.behind-then-are_zeros.ensures ∙ ap (λ k. list_all is_zero (drop k ys)) c.saturating_sub-left.ensures) in
    later ∙ (ap (λ b. b && list_all is_zero (drop (c.args.count - length xs) ys)) before ∙ sym (ends_is c.args.count xs ys))
