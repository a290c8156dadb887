use Rattle.kit_words.proofs.Common.{arith, ◌≡◌, ◌+◌, ◌-◌, ◌++◌, ap, drop}
use Rattle.std.proofs.Common.{to_z-of_z}
use Rattle.std.proofs.lemmas.Fmt.{length-decimal-le, decimal_nonempty}
use Rattle.std.proofs.lemmas.List.{drop-set}
use Rattle.itoa.proofs.Decimal.{minus_first}
use Rattle.topo_writer.proofs.texts.write_before.Goals as goal

pub write_digits-start-requires : goal.write_digits-start-requires
write_digits-start-requires c =
    (omega (arith, length-decimal-le 19 c.unsigned_abs.result (omega arith) (omega arith) (omega arith)), omega arith)

pub returns-then-number-ge0-clause-short : goal.returns-then-number-ge0-clause-short
returns-then-number-ge0-clause-short c = omega (arith, length-decimal-le 19 c.unsigned_abs.result (omega arith) (omega arith) (omega arith))

pub returns-then-number-ge0-clause-some : goal.returns-then-number-ge0-clause-some
returns-then-number-ge0-clause-some c = omega (arith, decimal_nonempty c.unsigned_abs.result (omega arith))

pub overflow_sub-buffer : goal.overflow_sub-buffer
overflow_sub-buffer c = omega (arith, length-decimal-le 19 c.unsigned_abs.result (omega arith) (omega arith) (omega arith))

pub overflow_sub-result : goal.overflow_sub-result
overflow_sub-result c = omega (arith, length-decimal-le 19 c.unsigned_abs.result (omega arith) (omega arith) (omega arith))

pub returns-clause-short : goal.returns-clause-short
returns-clause-short c = omega (arith, length-decimal-le 19 c.unsigned_abs.result (omega arith) (omega arith) (omega arith))

pub returns-clause-written : goal.returns-clause-written
returns-clause-written c =
    let w = c.write_digits-start in
    let long = length-decimal-le 19 c.unsigned_abs.result (omega arith) (omega arith) (omega arith) in
    let e : w.result - 1 + 1 ≡ w.result = omega arith in
    let back = to_z-of_z c.ranges.number in
    rw (drop-set w.new.buf (w.result - 1) 45 (omega arith), e, w.ensures.written, c.unsigned_abs.ensures.value, back)
    (ap (λ ds. ds ++ drop c.args.end c.args.buffer.now) (minus_first c.args.number (rw back at c.if-number-ge0.false)))
