use Rattle.kit_words.proofs.Common.{ap, ◌∙◌}
use Rattle.clap.specs.Words.{found_of, rows_of}
use Rattle.border_show.specs.Asked.{show_program}
use Rattle.border_show.proofs.WordLemmas.{rows_found}
use Rattle.border_show.proofs.command_line.arguments_of.Goals as goal

pub returns-in-Ok : goal.returns-in-Ok
returns-in-Ok c =
    record {
      found = rows_of (found_of c.in_ok-matches.matches);
      are_asked = c.in-Ok.ensures;
      are_found = λ e. rows_found c.in_ok-matches.matches _ _ c.in_ok-matches.ensures.ok.2
          (c.in_ok-command.ensures ∙ ap show_program (c.is_some_short.ensures ∙ e));
    }
