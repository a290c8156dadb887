use Rattle.border_cover.proofs.WordLemmas.{asked_among}
use Rattle.border_cover.proofs.command_line.arguments_of.Goals as goal

pub returns-in-Ok : goal.returns-in-Ok
returns-in-Ok c =
    asked_among c.in_ok-matches.matches _ _ _ c.in_ok-matches.ensures.ok.2 c.in_ok-command.ensures c.in-Ok.ensures
