use Rattle.kit_words.proofs.Common.{arith, common_steps}
use Rattle.decimal_texts.specs.Common.{parts_of, parts}
use Rattle.decimal_texts.proofs.Numbers.{number_long, none_seen}
use Rattle.decimal_texts.proofs.reading.decimal_of.Goals as goal

pub returns-in-45-clause-numbers : goal.returns-in-45-clause-numbers
returns-in-45-clause-numbers c = λ n none. number_long n (none_seen parts c.unsigned.result (parts_of c.args.text.now) none (grind (arith, common_steps)))

pub returns-in_default-clause-numbers : goal.returns-in_default-clause-numbers
returns-in_default-clause-numbers c = λ n none. number_long n (none_seen parts c.unsigned-in_default.result (parts_of c.args.text.now) none (grind (arith, common_steps)))
