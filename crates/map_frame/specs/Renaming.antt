-- A feature of the table with another id.
use Rattle.std.specs.Prelude.{Option, None, Some}
use Rattle.ring_machine.specs.Common.{Text}
use Rattle.map_frame.specs.declared.feature.Feature.{Feature}

module _ {A : Type 0} where
  -- the feature with this id, where one stands
  abbrev pub with_own_id : Option Text → Option (Feature A) → Option (Feature A)
  with_own_id id None = None
  with_own_id id (Some f) = Some (record f { texts = record f.texts { id = id } })

  -- the id of the feature, and this one where none stands
  abbrev pub id_or : Option Text → Option (Feature A) → Option Text
  id_or id None = id
  id_or id (Some f) = f.texts.id
