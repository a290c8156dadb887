-- What a thinning keeps of the vertices that it left out.
use Rattle.std.specs.Prelude.{◌≡◌, ◌≢◌, MatchOption}
use Rattle.ring_machine.specs.Common.{Document}
use Rattle.edit_records.specs.Common.{Thinned, Takes}
use Rattle.arc_store.specs.Common.{State, IsThinning, left_out}

-- the vertices that were left out so far are kept, and lead back to the document at the start
pub record IsThinnedFrom (start : Document) (now : State) : Type 0 where
  pub thinning : IsThinning now.last
  pub takes : Takes now.places now.next start now.doc (Thinned (left_out now.last))
  pub changed : MatchOption now.last (now.doc ≡ start) (λ made. now.doc ≢ start)

-- a record takes the thinning back, and there is none where nothing was left out
abbrev pub IsThinRecorded : State → State → Type 0
IsThinRecorded old new =
    MatchOption new.last (new.doc ≡ old.doc)
    (λ made. Takes new.places new.next old.doc new.doc made × (new.doc ≢ old.doc))
