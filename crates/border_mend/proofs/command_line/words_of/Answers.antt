use Rattle.kit_words.proofs.Common.{rules}
use Rattle.program_ends.proofs.Common.{copies_apart}
use Rattle.border_mend.proofs.WordLemmas.{files_apart}
use Rattle.border_mend.proofs.command_line.words_of.Goals as goal

pub returns-clause-apart : goal.returns-clause-apart
returns-clause-apart c =
    copies_apart c.args.said.now.places c.args.said.now.map _ _ c.is_file.result
    c.is_file.ensures (search rules) c.in_ok-copied.ensures c.in_ok-from_str.ensures.ok

pub returns-clause-files : goal.returns-clause-files
returns-clause-files c =
    files_apart c.args.said.now.places c.args.said.now.out _ _ (c.is_both.ensures (search rules)) c.in_ok-copied.ensures c.in_ok-copied-2.ensures
