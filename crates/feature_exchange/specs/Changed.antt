-- Features asked for by their numbers: as the code holds them, and as the machine sees them.
use Rattle.std.specs.Prelude.{ℕ, ◌≡◌, ◌<◌, ◌+◌, true, false, List, map, Option, Some, None, option_map}
use Rattle.ring_machine.specs.Common.{Feature, Document, DocumentOf, has_feature, is_layer}
use Rattle.ring_parts.specs.Common.{polygons_seen}
use Rattle.edit_records.specs.Common.{LayerTree, grown, exchanged}
use Rattle.map_frame.specs.Common.{Framed, with_texts}
use Rattle.feature_exchange.specs.declared.change.Change.{Change}
use Rattle.feature_exchange.specs.declared.change.WholeFeature.{WholeFeature}

module _ {A : Type 0} where
  -- the feature with this number
  abbrev pub feature_seen : ℕ → WholeFeature A → Feature
  feature_seen n w = with_texts n w.texts (polygons_seen w.polygons.items)

  -- the numbers, each with the feature that it has or is to have, or none
  abbrev pub seen : List (Change A) → List (ℕ × Option Feature)
  seen cs = map (λ c. (c.number, option_map (feature_seen c.number) c.was)) cs

-- the places, with the next new number directly after a feature where one is to come
abbrev pub trees_after : Option ℕ → ℕ → List LayerTree → List LayerTree
trees_after None next trees = trees
trees_after (Some n) next trees = grown n next trees

-- the number of the next new feature then
abbrev pub number_after : Option ℕ → ℕ → ℕ
number_after None next = next
number_after (Some n) next = next + 1

-- those of a frame
abbrev pub places_after : Option ℕ → Framed → List LayerTree
places_after after f = trees_after after f.next f.places

abbrev pub next_after : Option ℕ → Framed → ℕ
next_after after f = number_after after f.next

-- the frame with the new number, where one is to come
abbrev pub frame_after : Option ℕ → Framed → Framed
frame_after after f = record f { next = next_after after f; places = places_after after f }

-- a new number can come after the feature: it stands in a collection, and numbers are left
pub record MayGrow {R : Type 0} (d : DocumentOf R) (next : ℕ) (n : ℕ) : Type 0 where
  pub there : has_feature d n ≡ true
  pub inside : is_layer d n ≡ false
  pub few : next < 200000

-- the document with these features
abbrev pub changed_as : {A : Type 0} → Option ℕ → Framed → List (Change A) → Document → Document
changed_as after f cs d = exchanged (places_after after f) (seen cs) d
