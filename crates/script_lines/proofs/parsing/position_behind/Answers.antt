use Rattle.kit_words.proofs.Common.{sym, ◌∙◌, []}
use Rattle.script_lines.proofs.WordLemmas.{is_nil}
use Rattle.script_lines.proofs.CommandLemmas.{not_empty, positions_none, positions_rest, positions_more}
use Rattle.script_lines.proofs.parsing.position_behind.Goals as goal

pub returns-in_default : goal.returns-in_default
returns-in_default c = λ p h. positions_none c.args.tail.now p [] c.in_default.ensures h

pub returns-then-is_empty : goal.returns-then-is_empty
returns-then-is_empty c =
    positions_more c.args.tail.now c.in-Some.position.1.now c.in-Some.position.0 [] c.in-Some.ensures (is_nil c.in-Some.position.1.now (sym c.is_empty.ensures ∙ c.if-is_empty.true), tt)

pub returns-else-is_empty : goal.returns-else-is_empty
returns-else-is_empty c = λ p h.
    not_empty c.in-Some.position.1.now (sym c.is_empty.ensures ∙ c.if-is_empty.false) (positions_rest c.args.tail.now c.in-Some.position.1.now c.in-Some.position.0 p [] c.in-Some.ensures h).0
