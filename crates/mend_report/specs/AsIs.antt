-- What a map that opens in the editor as it is comes to: nothing is found in it, and it is saved as the editor saves it.
use Rattle.std.specs.Prelude.{◌≡◌, ℕ, true, List, ◌++◌}
use Rattle.ring_machine.specs.Common.{Document}
use Rattle.map_text.specs.Common.{Saved, text_of}
use Rattle.grid_reader.specs.Common.{IsTold}
use Rattle.grid_reader.specs.declared.told.Told.{Told}
use Rattle.walk_faults.specs.Common.{IsNothing}
use Rattle.mend_report.specs.Looking.{Looked}
use Rattle.mend_report.specs.Opens.{OpensTo, OpensAgain}
use Rattle.mend_report.specs.Remaking.{Remakes, RemakesWhole, TellsMending}
use Rattle.mend_report.specs.Report.{report_of}
use Rattle.mend_report.specs.declared.asked.Asked.{Asked}
use Rattle.mend_report.specs.declared.asked.Report.{Report}
use Rattle.mend_report.specs.declared.remaking.Remade.{Remade}

-- what is told of a grid of whole numbers, two a position
abbrev pub whole_grid : Told
whole_grid = record { decimals = 0; digits = 0; rounded = 0; heights = 0; whole = true }

-- nothing is found in what the bytes are, and that is reported
pub record TellsNothing {A : Type 0} (asked : Asked) (bytes : List ℕ) (report : Report A)
    (before after : List ℕ) : Type 0 where
  pub looked : Looked asked.grid bytes report.findings
  pub nothing : IsNothing report.findings
  pub grid : IsTold asked.grid bytes report.grid
  pub dropped : report.dropped ≡ asked.dropped
  pub told : after
      ≡ before ++ report_of asked.most report.grid report.dropped report.findings

-- the bytes open, and the text keeps the map that they are, and opens as it
pub record KeepsAsIs (bytes text : List ℕ) : Type 0 where
  pub document : Document
  pub opens : OpensTo bytes document
  pub is : text ≡ text_of document
  pub saved : Saved text document
  pub again : OpensAgain text document

-- there is such a text
abbrev pub IsKeptAsIs : List ℕ → Type 0
IsKeptAsIs bytes = (text : List ℕ) × KeepsAsIs bytes text

-- the map that the bytes are is mended, and that is reported
pub record TellsKept {A : Type 0} (asked : Asked) (bytes : List ℕ) (remade : Remade A)
    (before after : List ℕ) : Type 0 where
  pub remakes : Remakes asked.grid bytes remade
  pub whole : RemakesWhole bytes remade
  pub told : TellsMending asked bytes remade before after
