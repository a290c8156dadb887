use Rattle.kit_words.proofs.Common.{◌++◌, sym, ◌∙◌, codes}
use Rattle.decimal_texts.specs.Common.{without_zeros, or_zero}
use Rattle.decimal_texts.proofs.Leading.{first_led, second_led, zeros_alone}
use Rattle.decimal_texts.proofs.Appending.{last, last_of_two}
use Rattle.decimal_texts.proofs.shifted.push_digits.Goals as goal

pub returns-then-not-is_empty : goal.returns-then-not-is_empty
returns-then-not-is_empty g c =
    let xs = c.args.integer.now in
    let ys = c.args.fraction.now in
    let us = c.without_zeros-integer.result.now in
    last_of_two c.extend_from_slice-then-not-is_empty.result c.args.text.now.items us ys (or_zero (without_zeros (xs ++ ys)))
    c.extend_from_slice.new.self.items c.extend_from_slice-then-not-is_empty.new.self.items
    c.in_ok-extend_from_slice.ensures.items c.extend_from_slice-then-not-is_empty.ensures.items
    (first_led xs ys us c.without_zeros-integer.ensures (sym c.is_empty.ensures ∙ c.if-not-is_empty.true))

pub returns-then-is_empty : goal.returns-then-is_empty
returns-then-is_empty g c =
    let xs = c.args.integer.now in
    let ys = c.args.fraction.now in
    let us = c.without_zeros-integer.result.now in
    let vs = c.without_zeros-fraction.result.now in
    last c.extend_from_slice-then-is_empty.result c.args.text.now.items (codes "0") (or_zero (without_zeros (xs ++ ys))) c.extend_from_slice-then-is_empty.new.self.items
    c.extend_from_slice-then-is_empty.ensures.items
    (zeros_alone xs ys us vs c.without_zeros-integer.ensures (sym c.is_empty.ensures ∙ c.if-not-is_empty.false) c.without_zeros-fraction.ensures (sym c.is_empty-2.ensures ∙ c.if-is_empty.true))

pub returns-else-is_empty : goal.returns-else-is_empty
returns-else-is_empty g c =
    let xs = c.args.integer.now in
    let ys = c.args.fraction.now in
    let us = c.without_zeros-integer.result.now in
    let vs = c.without_zeros-fraction.result.now in
    last c.extend_from_slice-else-is_empty.result c.args.text.now.items vs (or_zero (without_zeros (xs ++ ys))) c.extend_from_slice-else-is_empty.new.self.items
    c.extend_from_slice-else-is_empty.ensures.items
    (second_led xs ys us vs c.without_zeros-integer.ensures (sym c.is_empty.ensures ∙ c.if-not-is_empty.false) c.without_zeros-fraction.ensures (sym c.is_empty-2.ensures ∙ c.if-is_empty.false))
