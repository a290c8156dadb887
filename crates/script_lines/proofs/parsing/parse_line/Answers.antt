use Rattle.kit_words.proofs.Common.{rules, arith, length, sym, ◌≤◌, ◌∙◌}
use Rattle.script_lines.specs.Common.{says_of}
use Rattle.script_lines.proofs.CommandLemmas.{bad_comment, said_asked}
use Rattle.script_lines.proofs.parsing.parse_line.Goals as goal

pub returns-in-Err : goal.returns-in-Err
returns-in-Err c = λ asked h. bad_comment c.args.line.now asked (sym c.is_comment.ensures ∙ c.if-is_comment.true) c.in-Err.ensures.cases.0 h

pub returns-in-Some : goal.returns-in-Some
returns-in-Some c =
    let short : length c.args.line.now ≤ 8192 = omega arith in
    said_asked c.args.line.now (says_of c.in-Some.said) short (search rules)
