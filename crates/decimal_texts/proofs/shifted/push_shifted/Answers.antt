use Rattle.kit_words.proofs.Common.{rules, ◌++◌, ◌<◌, ◌^◌, length, pos, ◌-ℤ◌, codes, signed_decimal, appended_two}
use Rattle.kit_words.proofs.Common.{appended_three}
use Rattle.decimal_texts.specs.Common.{sign_text, without_zeros, or_zero}
use Rattle.decimal_texts.proofs.Power.{power_text}
use Rattle.decimal_texts.proofs.shifted.push_shifted.Goals as goal

pub returns : goal.returns
returns g c =
    let p = c.args.number in
    let signed = c.push_sign.new.text.items in
    let written = c.push_digits.new.text.items in
    let new = c.extend_from_slice-2.new.self.items in
    let short : length c.args.number.fraction.now < 2 ^ 64 = search rules in
    appended_three c.args.text.now.items (sign_text p.is_negative) (or_zero (without_zeros (p.integer.now ++ p.fraction.now)))
    (codes "e" ++ signed_decimal ((p.exponent -ℤ pos (length p.fraction.now)) -ℤ pos c.args.digits)) signed written new
    c.in_ok-push_sign.ensures c.in_ok-push_digits.ensures
    (power_text p.exponent c.from.result (length p.fraction.now) c.args.digits written new c.from.ensures p.small_exponent short c.requires (appended_two written (codes "e") _ c.extend_from_slice.new.self.items new c.in_ok-extend_from_slice.ensures.items (search rules)))
