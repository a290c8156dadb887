-- What the code keeps of an edit, as the machine's record of it.
use Rattle.std.specs.Prelude.{◌≡◌, ◌≢◌, true, List, [], ◌∷◌, map, reverse, Option, None, Some, Contains}
use Rattle.grid_geometry.specs.Common.{Position, Segment, segment, segment_eq}
use Rattle.ring_machine.specs.Common.{Document, around}
use Rattle.edit_records.specs.Records as machine
use Rattle.edit_records.specs.Common.{Takes}
use Rattle.feature_exchange.specs.Common.{seen}
use Rattle.ring_store.specs.declared.removal.Removal.{Removal}
use Rattle.arc_store.specs.State.{State}
use Rattle.arc_store.specs.declared.edit_record.Record.{Record}
use Rattle.arc_store.specs.declared.edit_record.Record.TheVariants.{Moved, Inserted, Removed, Thinned, Renamed, Exchanged}

abbrev pub removal_seen : Removal → machine.Removal
removal_seen r = record { at = r.at; a = r.a; b = r.b }

module _ {A : Type 0} where
  -- a list of vertices that were left out ends with the newest
  abbrev pub record_seen : Record A → machine.Record
  record_seen (Moved from to) = machine.Moved from to
  record_seen (Inserted at) = machine.Inserted at
  record_seen (Removed r) = machine.Removed (removal_seen r)
  record_seen (Thinned rs) = machine.Thinned (reverse (map removal_seen rs.items))
  record_seen (Renamed n id) = machine.Renamed n id
  record_seen (Exchanged cs) = machine.Exchanged (seen cs.items)

-- the vertex at p was left out of the document from between two, and this says which
pub record IsLeftOut (d : Document) (p : Position) (r : machine.Removal) : Type 0 where
  pub at : r.at ≡ p
  pub apart : r.a ≢ r.b
  pub between : (s : Segment) → Contains (around d p) s → segment_eq s (segment r.a r.b) ≡ true

-- the vertices that were left out since the edit began, newest first
abbrev pub left_out : Option machine.Record → List machine.Removal
left_out (Some (machine.Thinned rs)) = rs
left_out _ = []

-- what is kept of vertices that were left out in this order
abbrev pub thinning_record : List Removal → Option machine.Record
thinning_record [] = None
thinning_record (r ∷ rs) = Some (machine.Thinned (reverse (map removal_seen (r ∷ rs))))

-- the edit has left out such vertices, or nothing is to be taken back
abbrev pub IsThinning : Option machine.Record → Type 0
IsThinning None = Unit {0}
IsThinning (Some (machine.Thinned (r ∷ rs))) = Unit {0}
IsThinning (Some _) = ⊥

-- the map keeps a record that takes the edit back
abbrev pub IsRecorded : State → State → Type 0
IsRecorded old new =
    (made : machine.Record) × (new.last ≡ Some made) × Takes new.places new.next old.doc new.doc made
