use Rattle.kit_words.proofs.Common.{rules, ◌<◌, ◌≤◌, ◌^◌, ℕ, length, get_or, arith, common_steps, IsInRange}
use Rattle.kit_words.proofs.Common.{digits_more}
use Rattle.script_lines.proofs.NumberLemmas.{front_small, one_more, digit_below}
use Rattle.script_lines.proofs.numbers.digits.Goals as goal

pub overflow_mul-value : goal.overflow_mul-value
overflow_mul-value c =
    let low : c.loop-len.len ≤ 17 = search rules in
    let within : c.loop-len.len ≤ length c.args.bytes.now = search rules in
    let small : c.loop-len.value < 10 ^ 17 = front_small c.args.bytes.now c.loop-len.len c.loop-len.value 17 c.loop-len.invariant.are c.loop-len.invariant.value within low in
    search rules

pub overflow_add-value : goal.overflow_add-value
overflow_add-value c =
    let low : c.loop-len.len ≤ 17 = search rules in
    let within : c.loop-len.len ≤ length c.args.bytes.now = search rules in
    let small : c.loop-len.value < 10 ^ 17 = front_small c.args.bytes.now c.loop-len.len c.loop-len.value 17 c.loop-len.invariant.are c.loop-len.invariant.value within low in
    search rules

pub loop-len-preserved : goal.loop-len-preserved
loop-len-preserved c =
    let bytes = c.args.bytes.now in
    let i : ℕ = c.loop-len.len in
    let lt : i < length bytes = search rules in
    let digit : IsInRange 48 57 (get_or bytes i 0) = (grind (arith, common_steps), grind (arith, common_steps)) in
    record {
      value = one_more bytes i c.loop-len.value c.from.result lt c.loop-len.invariant.value digit c.from.ensures;
      are = digits_more 10 bytes i lt c.loop-len.invariant.are (digit_below (get_or bytes i 0) digit);
      within = search rules;
    }
