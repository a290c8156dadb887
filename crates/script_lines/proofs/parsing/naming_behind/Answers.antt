use Rattle.kit_words.proofs.Common.{sym, ◌∙◌, [], rules}
use Rattle.edit_records.specs.Common.{string_text}
use Rattle.script_lines.proofs.CommandLemmas.{not_empty, naming_none, naming_no_token, naming_rest, naming_no_name}
use Rattle.script_lines.proofs.parsing.naming_behind.Goals as goal

pub returns-in_default : goal.returns-in_default
returns-in_default c = λ x w. naming_none c.args.tail.now x.0 (string_text x.1) [] c.in_default.ensures w

pub returns-in_default-spaced_token : goal.returns-in_default-spaced_token
returns-in_default-spaced_token c = λ x w.
    naming_no_token c.args.tail.now c.in-Some.words.now c.in-Some.feature c.in-Some.ensures x.0 (string_text x.1) [] tt c.in_default-spaced_token.ensures w

pub returns-then-not-is_empty : goal.returns-then-not-is_empty
returns-then-not-is_empty c = λ x w.
    not_empty c.in-Some-spaced_token.end.now (sym c.is_empty.ensures ∙ c.if-not-is_empty.true)
    (naming_rest c.args.tail.now c.in-Some.words.now c.in-Some.feature c.in-Some.ensures x.0 (string_text x.1) [] tt c.in-Some-spaced_token.token.now c.in-Some-spaced_token.end.now c.in-Some-spaced_token.ensures w)

pub returns-in-None : goal.returns-in-None
returns-in-None c = λ x w.
    naming_no_name c.args.tail.now c.in-Some.words.now c.in-Some.feature c.in-Some.ensures x.0 (string_text x.1) [] tt c.in-Some-spaced_token.token.now c.in-Some-spaced_token.end.now c.in-Some-spaced_token.ensures
    (search rules) w
