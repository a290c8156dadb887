-- What marks two segments in conflict.
use Rattle.std.specs.Prelude.{◌≡◌, ℕ, ℤ, pos, List, ◌++◌, codes}
use Rattle.grid_geometry.specs.Common.{segment_text}
use Rattle.svg_text.specs.Elements.{text_element}
use Rattle.map_features.specs.declared.conflicts.Conflict.{Conflict}

-- the words that name them, as opening does
abbrev pub conflict_words : Conflict → List ℕ
conflict_words c = codes "conflict " ++ (segment_text c.first ++ (codes " / " ++ segment_text c.second))

-- the text ends with a line that names them
pub record NamesConflict (c : Conflict) (text : List ℕ) : Type 0 where
  pub front : List ℕ
  pub down : ℤ
  pub named : text ≡ front ++ text_element (codes "gone") (pos 20) down (conflict_words c)

-- the text has such a line, and what is below the map
pub record IsNamedAbove (c : Conflict) (text : List ℕ) : Type 0 where
  pub map : List ℕ
  pub line : NamesConflict c map
  pub below : List ℕ
  pub ends : text ≡ map ++ below

-- the picture has such a line, and it ends
pub record IsNamedIn (picture : List ℕ) (c : Conflict) : Type 0 where
  pub text : List ℕ
  pub line : IsNamedAbove c text
  pub ends : picture ≡ text ++ codes "</svg>\n"
