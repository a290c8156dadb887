-- What part of a map is drawn, and why there is no picture.
use Rattle.std.specs.Prelude.{◌≡◌, ◌⊎◌, ℕ, List, Option, Some, None, IfSome, IsSomeAnd, string_bytes}
use Rattle.std.specs.declared.alloc.Global.{Global}
use Rattle.ring_machine.specs.Common.{Document, first_pair}
use Rattle.map_features.specs.declared.conflicts.Conflict.{Conflict}
use Rattle.map_drawing.specs.Marks.{IsNamedIn}
use Rattle.map_drawing.specs.Names.{IsLabelledIn}
use Rattle.topo_reader.specs.Common.{IsFault, Reads, document_of, view_raw}
use Rattle.topo_reader.specs.declared.document.RawDoc.{RawDoc}
use Rattle.map_drawing.specs.declared.view.View.{View}
use Rattle.border_show.specs.declared.arguments.Arguments.{Arguments}
use Rattle.border_show.specs.declared.arguments.Part.{Part}
use Rattle.border_show.specs.declared.arguments.Part.TheVariants as part
use Rattle.border_show.specs.Conflicts.{IsFirstConflict}
use Rattle.border_show.specs.Found.{IsNamed}
use Rattle.border_show.specs.Maps.{bytes_before, bytes_drawn}
use Rattle.border_show.specs.declared.finding.Shown.{Shown}
use Rattle.border_show.specs.declared.maps.MapFiles.{MapFiles}
use Rattle.border_show.specs.declared.showing.Drawing.{Drawing}
use Rattle.border_show.specs.declared.showing.ShowFault.{ShowFault}
use Rattle.border_show.specs.declared.showing.ShowFault.TheVariants.{Open, Feature}

-- the part that is asked for is shown: all, this square, or the surroundings of the feature that is named, which is
-- outlined where it is there
pub record IsNamedShown (before : Option (RawDoc Global)) (raw : RawDoc Global) (name : List ℕ) (view : View) : Type 0 where
  pub shown : Shown
  pub named : IsNamed before raw name shown
  pub part : view.part ≡ Some shown.part
  pub outlined : view.feature ≡ shown.number

abbrev pub IsFeatureView : Option (RawDoc Global) → RawDoc Global → List ℕ → View → View → Type 0
IsFeatureView before raw name all view =
    IsNamedShown before raw name view × (view.has_ids ≡ all.has_ids)

abbrev pub IsPartShown : Option (RawDoc Global) → RawDoc Global → Part → View → Type 0
IsPartShown before raw part.Whole view = (view.part ≡ None) × (view.feature ≡ None)
IsPartShown before raw (part.Square square) view = (view.part ≡ Some square) × (view.feature ≡ None)
IsPartShown before raw (part.Feature name) view = IsNamedShown before raw (string_bytes name) view

-- the view has the part and the ids that the arguments ask for
abbrev pub IsViewAsked : Option (RawDoc Global) → RawDoc Global → Arguments → View → Type 0
IsViewAsked before raw asked view =
    IsPartShown before raw asked.part view × (view.has_ids ≡ asked.has_ids)

-- the map is what the bytes mean
abbrev pub IsRead : List ℕ → RawDoc Global → Type 0
IsRead bytes map = Reads bytes (document_of (view_raw map))

-- the map before an edit is what its bytes mean, and there is none where there are no bytes
abbrev pub IsReadBefore : Option (List ℕ) → Option (RawDoc Global) → Type 0
IsReadBefore None None = Unit {0}
IsReadBefore (Some bytes) (Some map) = IsRead bytes map
IsReadBefore bytes map = ⊥

-- what is drawn: the map that the bytes of its file mean, as the arguments ask, with its first conflict marked; beside
-- the one before it, where there is one
pub record IsDrawing (maps : MapFiles) (asked : Arguments) (drawn : Drawing) : Type 0 where
  pub earlier : IsReadBefore (bytes_before maps) drawn.before
  pub map : IsRead (bytes_drawn maps) drawn.map
  pub view : IsViewAsked drawn.before drawn.map asked drawn.view
  pub conflict : IsFirstConflict (bytes_drawn maps) drawn.view.conflict

-- the picture has a line that names the first pair in conflict of the map that the bytes mean, if there is one
abbrev pub IsMarked : List ℕ → List ℕ → Type 0
IsMarked bytes picture = (d : Document) → Reads bytes d
    → IfSome (first_pair d) (λ pair. IsNamedIn picture (record { first = pair.0; second = pair.1 }))

-- between its map and the line of the first conflict, the picture has labels alone where ids are asked for, and nothing
-- where they are not
pub record IsLabelledAsAsked (maps : MapFiles) (asked : Arguments) (picture : List ℕ) : Type 0 where
  pub conflict : Option Conflict
  pub is_first : IsFirstConflict (bytes_drawn maps) conflict
  pub labelled : IsLabelledIn picture asked.has_ids conflict

-- the surroundings of a feature are asked for
abbrev pub IsFeaturePart : Part → Type 0
IsFeaturePart (part.Feature name) = Unit {0}
IsFeaturePart asked = ⊥

-- one of both maps has the fault, or no feature is the one that is asked for
abbrev pub IsShowFault : MapFiles → Part → ShowFault → Type 0
IsShowFault maps asked (Open fault) =
    IsFault (bytes_drawn maps) fault ⊎ IsSomeAnd (bytes_before maps) (λ bytes. IsFault bytes fault)
IsShowFault maps asked (Feature why) = IsFeaturePart asked
