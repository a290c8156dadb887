-- The feature that `--feature` names, and its surroundings.
use Rattle.std.specs.Prelude.{◌≡◌, ℕ, Bool, Option, Some, None, List, [], ◌∷◌, map, option_map}
use Rattle.std.specs.List.{filter}
use Rattle.std.specs.declared.alloc.Global.{Global}
use Rattle.topo_reader.specs.declared.document.RawDoc.{RawDoc}
use Rattle.map_features.specs.Shapes.{description_of, features_described}
use Rattle.map_features.specs.Names.{is_called}
use Rattle.map_features.specs.Windows.{ArePolygonsShown}
use Rattle.map_features.specs.declared.shapes.Shape.{Shape}
use Rattle.border_show.specs.declared.finding.Shown.{Shown}

-- the `id` of the feature stands for this text
abbrev pub is_shape_called : {A : Type 0} → List ℕ → Shape A → Bool
is_shape_called text shape = is_called (option_map (λ id. id.now) shape.id) text

-- a single feature was found, this is its number, and the part shows all of it
abbrev pub IsShownFeature : {A : Type 0} → List (Shape A) → Shown → Type 0
IsShownFeature [] shown = ⊥
IsShownFeature (shape ∷ []) shown =
    (shown.number ≡ Some shape.number) × ArePolygonsShown shown.part shape.polygons.now
IsShownFeature (shape ∷ next ∷ others) shown = ⊥

-- the same, of a map before an edit: the feature has no number in the map that is drawn
abbrev pub IsShownEarlier : {A : Type 0} → List (Shape A) → Shown → Type 0
IsShownEarlier [] shown = ⊥
IsShownEarlier (shape ∷ []) shown =
    (shown.number ≡ None) × ArePolygonsShown shown.part shape.polygons.now
IsShownEarlier (shape ∷ next ∷ others) shown = ⊥

-- ---- what a text names

-- the shapes are the features of the map with their polygons
abbrev pub AreShapesOf : RawDoc Global → List (Shape Global) → Type 0
AreShapesOf raw shapes = map description_of shapes ≡ features_described raw raw.polygons.items

-- of the map before an edit it is a single feature whose `id` stands for the text; where none there is called so, a
-- number is looked for, of which nothing is said
abbrev pub IsShownBefore : List (Shape Global) → Shown → Type 0
IsShownBefore [] shown = Unit {0}
IsShownBefore (shape ∷ shapes) shown = IsShownEarlier (shape ∷ shapes) shown

pub record IsNamedBefore (raw : RawDoc Global) (text : List ℕ) (shown : Shown) : Type 0 where
  pub shapes : List (Shape Global)
  pub are_shapes : AreShapesOf raw shapes
  pub is_shown : IsShownBefore (filter (is_shape_called text) shapes) shown

abbrev pub IsEarlier : Option (RawDoc Global) → List ℕ → Shown → Type 0
IsEarlier None text shown = Unit {0}
IsEarlier (Some raw) text shown = IsNamedBefore raw text shown

-- of the map it is a single feature among these, and where there is none, one before the edit
abbrev pub IsShownOf : Option (RawDoc Global) → List ℕ → List (Shape Global) → Shown → Type 0
IsShownOf before text [] shown = IsEarlier before text shown
IsShownOf before text (shape ∷ shapes) shown = IsShownFeature (shape ∷ shapes) shown

-- what the text names is shown: the feature of the map whose `id` stands for it
pub record IsNamed (before : Option (RawDoc Global)) (raw : RawDoc Global) (text : List ℕ) (shown : Shown) : Type 0 where
  pub shapes : List (Shape Global)
  pub are_shapes : AreShapesOf raw shapes
  pub is_shown : IsShownOf before text (filter (is_shape_called text) shapes) shown
