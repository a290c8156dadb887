use Rattle.kit_words.proofs.Common.{◌≡◌, refl, ap, sym, ◌∙◌, arith, ints}
use Rattle.json_spans.specs.Common.{value_from}
use Rattle.grid_decimals.proofs.Trimming.{kept_size}
use Rattle.grid_decimals.proofs.Units.{both_large, first_large, power_is}
use Rattle.grid_decimals.proofs.reading.number_of_digits.Goals as goal

pub returns-in_err-read_digits : goal.returns-in_err-read_digits
returns-in_err-read_digits c =
    rw c.from_residual.ensures
    (first_large c.args.integer.now c.args.fraction.now c.kept_integer-kept.result.now c.without_zeros_behind-fraction.result.now
    c.without_zeros_behind-fraction.ensures.value c.kept_integer-kept.ensures.value c.in_err-read_digits.ensures.value)

pub returns-in_err-size : goal.returns-in_err-size
returns-in_err-size c =
    rw c.from_residual-in_err-size.ensures
    (both_large c.args.integer.now c.args.fraction.now c.kept_integer-kept.result.now c.without_zeros_behind-fraction.result.now _
    c.without_zeros_behind-fraction.ensures.value c.kept_integer-kept.ensures.value c.in_ok-read_digits.ensures.value c.in_err-size.ensures.value)

pub returns : goal.returns
returns c =
    let xs = c.args.integer.now in
    let ys = c.args.fraction.now in
    let us = c.kept_integer-kept.result.now in
    let vs = c.without_zeros_behind-fraction.result.now in
    let same : c.from.result ≡ c.args.exponent = omega (arith, ints) in
    record {
      sign = refl;
      size = c.in_ok-size.ensures.value ∙ (ap (λ n. value_from n vs) c.in_ok-read_digits.ensures.value
          ∙ sym (kept_size xs ys us vs c.without_zeros_behind-fraction.ensures.value c.kept_integer-kept.ensures.value));
      power = power_is c.args.exponent c.from.result xs ys us vs same c.requires (omega arith) (omega arith) (omega arith)
          c.without_zeros_behind-fraction.ensures.value c.kept_integer-kept.ensures.value;
    }
