use Rattle.kit_words.proofs.Common.{◌≡◌, ◌+◌, ◌*◌, ◌-◌, get_or, arith}
use Rattle.json_spans.proofs.Decimal.{value_turn, value_large, value_end}
use Rattle.grid_decimals.proofs.number.read_digits.Goals as goal

pub returns-then-read-gt-LIMIT-clause-value : goal.returns-then-read-gt-LIMIT-clause-value
returns-then-read-gt-LIMIT-clause-value c = value_large _ _ _ c.args.digits.now _ (omega arith) (omega arith) c.loop-x.invariant.value

pub loop-x-preserved : goal.loop-x-preserved
loop-x-preserved c =
    let next : c.loop-x.read * 10 + c.from.result ≡ c.loop-x.read * 10 + (get_or c.args.digits.now c.loop-x.x-index 0 - 48) = omega arith in
    record {
      value = rw next (value_turn _ _ c.args.digits.now _ (omega arith) c.loop-x.invariant.value);
      bound = omega arith;
    }

pub returns-clause-value : goal.returns-clause-value
returns-clause-value c = value_end _ _ c.args.digits.now _ (omega arith) c.loop-x.invariant.value
