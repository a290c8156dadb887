use Rattle.kit_words.proofs.Common.{◌≡◌, ◌≤◌, ◌*◌, ◌-◌, ◌^◌, ap, sym, subst, ◌∙◌, length, MatchOption}
use Rattle.json_spans.specs.Common.{value_from}
use Rattle.decimal_texts.proofs.Cutting.{first_digits_is, first_large, both_large}
use Rattle.decimal_texts.proofs.decimal.Decimal.first_digits.Goals as goal

pub returns-in_err-read_digits-clause-value : goal.returns-in_err-read_digits-clause-value
returns-in_err-read_digits-clause-value c =
    rw c.from_residual.ensures (first_large (10 ^ 37) c.args.count c.args.self.now.integer.now c.args.self.now.fraction.now c.first-integer.result.now c.first-integer.ensures c.in_err-read_digits.ensures.value)

pub returns-in_err-number-clause-value : goal.returns-in_err-number-clause-value
returns-in_err-number-clause-value c =
    let us = c.first-integer.result.now in
    let vs = c.first-fraction.result.now in
    let large = subst (λ n. 10 ^ 37 ≤ value_from n vs) c.in_ok-read_digits.ensures.value c.in_err-number.ensures.value in
    rw c.from_residual-in_err-number.ensures (both_large (10 ^ 37) c.args.count c.args.self.now.integer.now c.args.self.now.fraction.now us vs c.first-integer.ensures c.first-fraction.ensures large)

pub returns-clause-value : goal.returns-clause-value
returns-clause-value c =
    let us = c.first-integer.result.now in
    let vs = c.first-fraction.result.now in
    let number = c.in_ok-number.ensures.value ∙ ap (λ n. value_from n vs) c.in_ok-read_digits.ensures.value in
    let whole = ap (λ n. n * 10 ^ (c.args.count - length us - length vs)) number ∙ sym (first_digits_is c.args.count c.args.self.now.integer.now c.args.self.now.fraction.now us vs c.first-integer.ensures c.first-fraction.ensures) in
    subst (λ k. MatchOption c.with_zeros.result (10 ^ 37 ≤ k) (λ n. n ≡ k)) whole c.with_zeros.ensures.value
