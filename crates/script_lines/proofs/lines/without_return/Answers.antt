use Rattle.kit_words.proofs.Common.{sym}
use Rattle.script_lines.proofs.ReturnLemmas.{return_found, not_returned}
use Rattle.script_lines.proofs.lines.without_return.Goals as goal

pub returns-in-Some-clause-text : goal.returns-in-Some-clause-text
returns-in-Some-clause-text c = return_found c.args.line.now c.in-Some.front.now c.in-Some.ensures.cases.0 c.in-Some.ensures.cases.1

pub returns-in-None-clause-text : goal.returns-in-None-clause-text
returns-in-None-clause-text c = sym (not_returned c.args.line.now c.in-None.ensures.cases)
