use Rattle.kit_words.proofs.Common.{rules}
use Rattle.program_ends.proofs.Common.{copies_apart}
use Rattle.edit_program.proofs.command_line.words_of.Goals as goal

pub returns-clause-apart : goal.returns-clause-apart
returns-clause-apart c =
    copies_apart c.args.said.now.refused c.args.said.now.out _ _ c.is_file.result
    c.is_file.ensures (search rules) c.in_ok-copied.ensures c.in_ok-from_str-3.ensures.ok
