-- Texts that open.
use Rattle.std.specs.Prelude.{ℕ, List}
use Rattle.ring_machine.specs.Common.{Document, Proper, Same}
use Rattle.topo_reader.specs.Common.{Reads, Fits}

-- the bytes mean a document, within the limits
abbrev pub IsRead : List ℕ → Type 0
IsRead bytes = (d : Document) × (reading : Reads bytes d) × Fits reading

-- the bytes mean this document, within the limits, and no two of its segments conflict
pub record OpensTo (bytes : List ℕ) (d : Document) : Type 0 where
  pub reads : Reads bytes d
  pub fits : Fits reads
  pub proper : Proper d

-- the bytes open
abbrev pub HasOpened : List ℕ → Type 0
HasOpened bytes = (d : Document) × OpensTo bytes d

-- the bytes open as this document, but for the numbers of its features
abbrev pub OpensAgain : List ℕ → Document → Type 0
OpensAgain bytes d = (e : Document) × OpensTo bytes e × Same d e
