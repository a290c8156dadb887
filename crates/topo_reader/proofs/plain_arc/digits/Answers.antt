use Rattle.kit_words.proofs.Common.{◌≡◌, ◌+◌, ◌*◌, ◌-◌, ◌<◌, ℕ, true, length, take, get_or, refl, sym, ◌∙◌, arith}
use Rattle.kit_words.proofs.Common.{common_steps}
use Rattle.json_spans.specs.Common.{is_digit, value_from}
use Rattle.topo_reader.proofs.PlainNumbers.{value_more, digits_more}
use Rattle.topo_reader.proofs.plain_arc.digits.Goals as goal

pub loop-i-init : goal.loop-i-init
unfolding value_from
loop-i-init c = record { value = refl; are = refl; small = omega arith }

pub loop-i-preserved : goal.loop-i-preserved
loop-i-preserved c =
    let i : ℕ = c.loop-i.i in
    let x : ℕ = get_or c.args.bytes.now i 0 in
    let lt : i < length c.args.bytes.now = omega arith in
    let digit : is_digit x ≡ true = grind (arith, common_steps) in
    let low : x < 58 = grind (arith, common_steps) in
    let next : c.loop-i.value * 10 + c.from.result ≡ value_from 0 (take i c.args.bytes.now) * 10 + (x - 48) = omega (arith, c.loop-i.invariant.value, c.from.ensures) in
    record {
      value = next ∙ sym (value_more c.args.bytes.now i lt);
      are = digits_more c.args.bytes.now i lt digit c.loop-i.invariant.are;
      small = omega (arith, c.from.ensures, c.if-value-ge-LIMIT.false);
    }
