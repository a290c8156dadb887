-- The labels of a picture, which are between the end of the map and what is below it.
use Rattle.std.specs.Prelude.{◌≡◌, ◌⊎◌, ℕ, ℤ, pos, Bool, true, false, List, [], ◌++◌, flat_map, codes, Option, Some, None}
use Rattle.svg_text.specs.Elements.{text_element}
use Rattle.map_features.specs.Names.{id_behind, number_text}
use Rattle.map_features.specs.declared.conflicts.Conflict.{Conflict}
use Rattle.map_drawing.specs.Marks.{NamesConflict}

-- the words are the number of a feature, perhaps with an `id` behind it
pub record IsNumberAndId (words : List ℕ) : Type 0 where
  pub number : ℕ
  pub id : Option (List ℕ)
  pub words_are : words ≡ number_text number ++ id_behind id

-- a label: the middle of its base line, the number of a feature, and its `id` where that is written too
pub record NamedFeature : Type 0 where
  pub across : ℤ
  pub down : ℤ
  pub number : ℕ
  pub id : Option (List ℕ)

abbrev pub named_text : NamedFeature → List ℕ
named_text n = text_element (codes "name") n.across n.down (number_text n.number ++ id_behind n.id)

-- the text goes on
pub record Adds (old new : List ℕ) : Type 0 where
  pub more : List ℕ
  pub added : new ≡ old ++ more

-- with labels alone
pub record AddsNames (old new : List ℕ) : Type 0 where
  pub names : List NamedFeature
  pub added : new ≡ old ++ flat_map named_text names

-- the text has labels alone where they are asked for, and else nothing
abbrev pub AreNamesAsked : Bool → List ℕ → Type 0
AreNamesAsked false text = text ≡ []
AreNamesAsked true text = (names : List NamedFeature) × (text ≡ flat_map named_text names)

-- and goes on so
pub record AddsNamesAsked (asked : Bool) (old new : List ℕ) : Type 0 where
  pub labels : List ℕ
  pub are_asked : AreNamesAsked asked labels
  pub added : new ≡ old ++ labels

-- ---- below them

-- a line that names two segments in conflict, where there are any, and else nothing
abbrev pub TellsConflict : Option Conflict → List ℕ → Type 0
TellsConflict None text = text ≡ []
TellsConflict (Some c) text = NamesConflict c text

pub record AddsPlace (conflict : Option Conflict) (old new : List ℕ) : Type 0 where
  pub place : List ℕ
  pub is_place : TellsConflict conflict place
  pub added : new ≡ old ++ place

-- the list of changes begins with what its first colour means
abbrev pub list_head : ℤ → List ℕ
list_head down = text_element (codes "gone") (pos 20) down (codes "borders gone (dashed)")

pub record AddsList (old new : List ℕ) : Type 0 where
  pub down : ℤ
  pub rows : List ℕ
  pub added : new ≡ old ++ (list_head down ++ rows)

-- ---- a picture

abbrev pub map_end : List ℕ
map_end = codes "</g>\n" ++ codes "</svg>\n"

-- the map ends, and then come labels as they are asked for, and the line of a conflict
pub record IsLabelled (asked : Bool) (conflict : Option Conflict) (text : List ℕ) : Type 0 where
  pub map : List ℕ
  pub labels : List ℕ
  pub place : List ℕ
  pub are_asked : AreNamesAsked asked labels
  pub is_place : TellsConflict conflict place
  pub text_is : text ≡ map ++ (map_end ++ (labels ++ place))

-- a list of changes may follow
pub record IsLabelledAbove (asked : Bool) (conflict : Option Conflict) (whole : List ℕ) : Type 0 where
  pub text : List ℕ
  pub labelled : IsLabelled asked conflict text
  pub below : (whole ≡ text) ⊎ AddsList text whole

-- and the picture ends
pub record IsLabelledIn (picture : List ℕ) (asked : Bool) (conflict : Option Conflict) : Type 0 where
  pub text : List ℕ
  pub labelled : IsLabelledAbove asked conflict text
  pub ends : picture ≡ text ++ codes "</svg>\n"
