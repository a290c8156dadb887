-- A worked example: two squares with a common side, as they are kept and as a document.
use Rattle.kit_words.proofs.Common.{◌≡◌, ℕ, refl, ap, ap₂, ◌∙◌, List, [], ◌∷◌, map, Some, None, pos, unwrap_or, nat_cmp}
use Rattle.std.specs.FinMap as table
use Rattle.grid_geometry.specs.Common.{Position, position}
use Rattle.ring_machine.specs.Common.{canonical, DocumentOf, FeatureOf, Polygon, Leaf}
use Rattle.vertex_index.specs.Common.{Placement, place}
use Rattle.arc_tables.specs.Common.{Edge, Rings, edges, begins}
use Rattle.feature_exchange.specs.Common.{Stored, positions_along, ring_under, stored_document}

abbrev nowhere : Position
nowhere = position (pos 0) (pos 0)

-- the corners, each under its key
abbrev corners : List (ℕ × Position)
corners =
    (0, position (pos 0) (pos 0)) ∷ (1, position (pos 10) (pos 0)) ∷ (2, position (pos 10) (pos 10))
    ∷ (3, position (pos 0) (pos 10)) ∷ (4, position (pos 20) (pos 0)) ∷ (5, position (pos 20) (pos 10)) ∷ []

-- the rings under 3 and 8: the first is kept from the corner 10 10 on
abbrev squares : List (ℕ × List Edge)
squares = (3, edges (2 ∷ 3 ∷ 0 ∷ 1 ∷ [])) ∷ (8, edges (1 ∷ 4 ∷ 5 ∷ 2 ∷ [])) ∷ []

-- one layer of two features with these rings
abbrev feature_with : {R : Type 0} → ℕ → R → FeatureOf R
feature_with n r = record { number = n; id = None; form = Polygon; properties = None; members = []; polygons = (r ∷ []) ∷ [] }

abbrev layer_with : {R : Type 0} → R → R → DocumentOf R
layer_with a b = record {
  transform = None;
  layers = record { name = []; items = Leaf (feature_with 0 a) ∷ Leaf (feature_with 1 b) ∷ [] } ∷ [];
  members = [];
}

abbrev kept_corners : Placement
kept_corners = table.from_sorted {R = nat_cmp} corners

abbrev kept_squares : Rings
kept_squares = table.from_sorted {R = nat_cmp} squares

abbrev kept : Stored
kept = record { frame = layer_with 3 8; rings = kept_squares; places = kept_corners }

-- where the corner of this key is
abbrev corner : ℕ → Position
corner k = unwrap_or (table.find nat_cmp k corners) nowhere

corner_kept : (k : ℕ) → place kept_corners k ≡ corner k
corner_kept k = ap (λ o. unwrap_or o nowhere) (table.get-entries kept_corners k ∙ ap (table.find nat_cmp k) (table.entries-from_sorted nat_cmp corners tt))

corners_kept : (ks : List ℕ) → map (place kept_corners) ks ≡ map corner ks
corners_kept [] = refl
corners_kept (k ∷ ks) = ap₂ (λ p ps. p ∷ ps) (corner_kept k) (corners_kept ks)

ring_kept : (r : ℕ) (es : List Edge) → table.find nat_cmp r squares ≡ Some es
    → ring_under kept r ≡ canonical (map corner (begins es))
ring_kept r es e =
    ap (λ o. canonical (positions_along kept_corners (unwrap_or o []))) (table.get-entries kept_squares r ∙ ap (table.find nat_cmp r) (table.entries-from_sorted nat_cmp squares tt) ∙ e)
    ∙ ap canonical (corners_kept (begins es))

-- the document has the two rings, each from its least position on
as_a_document : stored_document kept ≡ layer_with
    (position (pos 0) (pos 0) ∷ position (pos 10) (pos 0) ∷ position (pos 10) (pos 10) ∷ position (pos 0) (pos 10) ∷ [])
    (position (pos 10) (pos 0) ∷ position (pos 20) (pos 0) ∷ position (pos 20) (pos 10) ∷ position (pos 10) (pos 10) ∷ [])
as_a_document = ap₂ layer_with (ring_kept 3 (edges (2 ∷ 3 ∷ 0 ∷ 1 ∷ [])) refl) (ring_kept 8 (edges (1 ∷ 4 ∷ 5 ∷ 2 ∷ [])) refl)
