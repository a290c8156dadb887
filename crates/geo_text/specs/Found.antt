-- The layers of a map as they stand in its text, before its features have their rings.
use Rattle.std.specs.Prelude.{ℕ, ◌+◌, ◌-◌, Bool, true, false, List, [], ◌∷◌, length, filter, take, Option, Some, None, if◌then◌else◌}
use Rattle.ring_machine.specs.Common.{Text, Head}
use Rattle.topo_outline.specs.Common.{LayerText, Piece, starts, text, leaves_in, view_layer}
use Rattle.geo_text.specs.Layer.{is_asked, no_head}
use Rattle.geo_text.specs.declared.found.Found.{Found}

-- a layer, and how many features and points of the map stand before it
pub record FoundText : Type 0 where
  pub layer : LayerText
  pub leaves : ℕ
  pub points : ℕ

abbrev pub view_found : {A : Type 0} → Found A → FoundText
view_found found = record {
  layer = view_layer found.layer.now;
  leaves = found.leaves;
  points = found.points;
}

-- how many points stand among pieces
abbrev pub is_text : Piece → Bool
is_text (text t) = true
is_text piece = false

abbrev pub points_of : List Piece → ℕ
points_of pieces = length (filter is_text pieces)

-- the layers that are asked for
unfoldable pub asked_texts : Option Text → ℕ → ℕ → List LayerText → List FoundText
asked_texts name leaves points [] = []
asked_texts name leaves points (l ∷ ls) =
    if is_asked name l.name
    then (record { layer = l; leaves = leaves; points = points }
    ∷ asked_texts name (leaves + length (leaves_in l.pieces)) (points + points_of l.pieces) ls)
    else asked_texts name (leaves + length (leaves_in l.pieces)) (points + points_of l.pieces) ls

-- what the collection of a layer has beside its geometries, if it is one, and these
abbrev pub head_of_pieces : List Piece → Option Head
head_of_pieces (starts h ∷ pieces) = Some h
head_of_pieces pieces = None

abbrev pub inside_pieces : List Piece → List Piece
inside_pieces (starts h ∷ pieces) = take (length pieces - 1) pieces
inside_pieces pieces = pieces

abbrev pub head_or_none : Option Head → Head
head_or_none None = no_head
head_or_none (Some h) = h
