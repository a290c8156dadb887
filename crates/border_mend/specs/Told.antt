-- What is told of a map that opens in the editor as it is.
use Rattle.std.specs.Prelude.{ℕ, List, Ok, Err}
use Rattle.mend_report.specs.AsIs.{TellsNothing, TellsKept}
use Rattle.mend_report.specs.declared.asked.Asked.{Asked}
use Rattle.border_mend.specs.declared.told.Outcome.{Outcome}
use Rattle.border_mend.specs.declared.told.Outcome.TheVariants.{Looked, Mended}

-- nothing is found in it, or it is kept as it is, and that is reported
abbrev pub TellsAsIs : Asked → List ℕ → List ℕ → List ℕ → Outcome → Type 0
TellsAsIs asked bytes before after (Looked (Ok report)) = TellsNothing asked bytes report before after
TellsAsIs asked bytes before after (Looked (Err fault)) = ⊥
TellsAsIs asked bytes before after (Mended (Ok remade)) = TellsKept asked bytes remade before after
TellsAsIs asked bytes before after (Mended (Err fault)) = ⊥
