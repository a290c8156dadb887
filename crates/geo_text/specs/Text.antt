-- The text of a layer of a document as GeoJSON (RFC 7946): one line a Feature, and every coordinate an exact decimal.
use Rattle.std.specs.Prelude.{ℕ, ◌-ℤ◌, max, min, nat_le, unsigned_abs, ◌++◌, codes, Option, Some, None, Result, Ok, Err}
use Rattle.std.specs.List.{flat_map, fold}
use Rattle.grid_geometry.specs.Common.{Position, edges}
use Rattle.ring_machine.specs.Common.{Text, Document, rings}
use Rattle.topo_outline.specs.Common.{bad_member}
use Rattle.grid_decimals.specs.Common.{GridOf, grid_of, least_decimals, safe_decimals}
use Rattle.geo_text.specs.Wants.{Wants}
use Rattle.geo_features.specs.Style.{Style}
use Rattle.geo_features.specs.Faults.{GeoFault, of_map, few_decimals, ◌>>=◌, demand}
use Rattle.geo_text.specs.Items.{begin_at, items_text}
use Rattle.geo_text.specs.Layer.{asked_layer, front_of, layer_head, layer_items}

-- ---- how many decimals

-- the longer side of the box of an edge
abbrev pub side : Position × Position → ℕ
side e = max (unsigned_abs (e.1.x -ℤ e.0.x)) (unsigned_abs (e.1.y -ℤ e.0.y))

-- the longest side of the box of a segment of the document
abbrev pub longest_side : Document → ℕ
longest_side d = fold (λ most e. max most (side e)) 0 (flat_map edges (rings d))

-- so many as are asked for and there are, but not fewer than keep positions apart; else as few as keep each vertex on its
-- side of each segment
abbrev pub decimals_for : Option ℕ → ℕ → GridOf → Result ℕ GeoFault
decimals_for None longest g = Ok (safe_decimals longest g)
decimals_for (Some k) longest g =
    demand (nat_le (least_decimals g) k) (few_decimals k (least_decimals g)) (Ok (min k g.decimals))

abbrev pub there : Option GridOf → Result GridOf GeoFault
there None = Err (of_map (bad_member (codes "transform")))
there (Some g) = Ok g

-- how the positions of a document are written
abbrev pub style_of : Wants → Document → Result Style GeoFault
style_of wants d = do
  g ← there (grid_of d.transform)
  k ← decimals_for wants.decimals (longest_side d) g
  Ok (record { grid = g; decimals = k; keeps_winding = wants.keeps_winding })

-- ---- the text

-- the text of the layer that is asked for, or the first fault
abbrev pub geo_text : Wants → Document → Result Text GeoFault
geo_text wants d = do
  found ← asked_layer wants.layer d
  s ← style_of wants d
  front ← front_of found.1.name (layer_head found.1.items) d.members
  rest ← items_text wants.flattens s (begin_at found.0) (layer_items found.1.items)
  Ok (front ++ rest)
