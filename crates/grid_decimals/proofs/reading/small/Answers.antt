use Rattle.kit_words.proofs.Common.{◌≡◌, ◌≤◌, length, arith}
use Rattle.json_spans.specs.Common.{digits_len}
use Rattle.decimal_texts.proofs.Values.{small_value}
use Rattle.grid_decimals.proofs.reading.small.Goals as goal

pub returns-in_err-read_digits-clause-value : goal.returns-in_err-read_digits-clause-value
returns-in_err-read_digits-clause-value c =
    let xs = c.args.bytes.now in
    let all : digits_len xs ≡ length xs = omega arith in
    let few : length xs ≤ 3 = omega arith in
    absurd (omega (arith, c.in_err-read_digits.ensures.value, small_value xs all few))

pub overflow_cast-result : goal.overflow_cast-result
overflow_cast-result c =
    let xs = c.args.bytes.now in
    let all : digits_len xs ≡ length xs = omega arith in
    let few : length xs ≤ 3 = omega arith in
    omega (arith, c.in_ok-read_digits.ensures.value, small_value xs all few)

pub returns-clause-bound : goal.returns-clause-bound
returns-clause-bound c =
    let xs = c.args.bytes.now in
    let all : digits_len xs ≡ length xs = omega arith in
    let few : length xs ≤ 3 = omega arith in
    omega (arith, c.in_ok-read_digits.ensures.value, small_value xs all few)
