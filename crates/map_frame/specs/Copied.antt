-- What a copy of a frame's tables shares with them.
use Rattle.std.specs.Prelude.{◌≡◌, ℕ, List, map, option_map}
use Rattle.ring_machine.specs.Common.{Text, Head, FeatureOf}
use Rattle.topo_outline.specs.Common.{view_head, view_kept}
use Rattle.map_frame.specs.declared.feature.Feature.{Feature}
use Rattle.map_frame.specs.declared.tables.Slot.{Slot}
use Rattle.map_frame.specs.declared.tables.Slot.TheVariants as slot
use Rattle.map_frame.specs.declared.tables.Geometry.{Geometry}
use Rattle.map_frame.specs.declared.tables.Geometry.TheVariants as geometry
use Rattle.map_frame.specs.declared.tables.Layer.{Layer}
use Rattle.map_frame.specs.declared.tables.Tables.{Tables}
use Rattle.map_frame.specs.Seen.{view_feature}

-- a slot with its texts and numbers
pub data SlotText : Type 0 where
  opens : Head → SlotText
  closes : SlotText
  keeps : Text → SlotText
  stand : List ℕ → SlotText

-- a geometry with its slots' texts and numbers
pub data GeometryText : Type 0 where
  alone : ℕ → GeometryText
  holds : List SlotText → GeometryText

-- a layer with its texts and numbers
pub record NumberedLayer : Type 0 where
  pub name : Text
  pub geometry : GeometryText

module _ {A : Type 0} where
  abbrev pub slot_text : Slot A → SlotText
  slot_text (slot.Open h) = opens (view_head h)
  slot_text slot.Close = closes
  slot_text (slot.Kept t) = keeps t.now
  slot_text (slot.Leaves numbers) = stand numbers.items

  abbrev pub geometry_text : Geometry A → GeometryText
  geometry_text (geometry.Alone n) = alone n
  geometry_text (geometry.Items slots) = holds (map slot_text slots.items)

  abbrev pub layer_text : Layer A → NumberedLayer
  layer_text l = record { name = l.name.now; geometry = geometry_text l.geometry }

  -- the feature with its texts and the numbers of its rings
  abbrev pub seen : Feature A → FeatureOf ℕ
  seen f = view_feature 0 f

  -- the tables have the same texts and numbers
  pub record AreCopied (t copy : Tables A) : Type 0 where
    pub transform : copy.transform ≡ t.transform
    pub layers : map layer_text copy.layers.items ≡ map layer_text t.layers.items
    pub members : map view_kept copy.members.items ≡ map view_kept t.members.items
    pub features : map (option_map seen) copy.features.items ≡ map (option_map seen) t.features.items
    pub stands : copy.stands.items ≡ t.stands.items
    pub count : copy.count ≡ t.count
    pub names : copy.names.items ≡ t.names.items
    pub empty : map slot_text copy.empty.items ≡ map slot_text t.empty.items
