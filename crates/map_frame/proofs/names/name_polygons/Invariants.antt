use Rattle.kit_words.proofs.Common.{◌≡◌, ◌<◌, length, map}
use Rattle.map_frame.specs.Common.{polygon_numbers, Gain}
use Rattle.map_frame.proofs.BuiltNames.{OfFeature}
use Rattle.map_frame.proofs.names.name_polygons.Given as goal

-- the rings of the polygons so far have names, in a table that is as long as before
abbrev pub invariant-loop-polygon : goal.invariant-loop-polygon
invariant-loop-polygon g l =
    Gain l.fn.names.items l.names.items (λ o k. OfFeature l.feature (map polygon_numbers l.polygons) o k × (o.polygon < l.polygon))
    × (length l.names.items ≡ length l.fn.names.items)
