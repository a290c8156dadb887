-- The records of a map's newest changes.
use Rattle.std.specs.Prelude.{◌≡◌, ◌∷◌, List, map, take, Option, None, Some}
use Rattle.std.specs.List.{AllByRecursion}
use Rattle.circular_buffer.specs.Buffer.{Buffer, buffer}
use Rattle.edit_records.specs.Common.{Record, documents, AreUndoing}
use Rattle.topo_outline.specs.Common.{KeepsTexts}
use Rattle.arc_store.specs.State.{State as MapState}
use Rattle.undo_ring.specs.Boxed.{CoversSince}
use Rattle.undo_ring.specs.Edited.{Edited}
use Rattle.undo_ring.specs.declared.near.Near.{Near}

-- each record takes its change back to a document whose texts may be kept, and the map has handed out
-- the record of its last edit
pub record IsTrail (now : MapState) (rs : List Record) : Type 0 where
  pub undoing : AreUndoing now.places now.next now.doc rs
  pub texts : AllByRecursion KeepsTexts (documents now.places now.doc rs)
  pub taken : now.last ≡ None

-- the records are a trail, and the boxes cover the map's document and those before its newest changes
pub record IsEditor {A : Type 0} (now : MapState) (rs : List Record) (near : Near A) : Type 0 where
  pub trail : IsTrail now rs
  pub known : CoversSince near (now.doc ∷ documents now.places now.doc rs)

-- the records with one more in front, where there is one
abbrev pub records_kept : {X : Type 0} → Buffer X → Option X → Buffer X
records_kept records None = records
records_kept records (Some made) = buffer (take records.capacity (made ∷ records.items)) records.capacity

-- an editor of this map, with these records of its changes
abbrev pub edited_by : {X : Type 0} → (X → Record) → MapState → Buffer X → Edited
edited_by seen m records = record {
  map = m;
  past = documents m.places m.doc (map seen records.items);
  depth = records.capacity;
}
