-- What the code holds of arcs and rings, as the definitions see it.
use Rattle.std.specs.Prelude.{List, map, flat_map, reverse, if◌then◌else◌, Vec}
use Rattle.grid_geometry.specs.Common.{Position}
use Rattle.topo_reader.specs.declared.indexes.Use.{Use}
use Rattle.topo_reader.specs.Arcs.{Arc}

abbrev pub arc_of : Use → Arc
arc_of u = if u.reversed then reverse u.arc.now else u.arc.now

abbrev pub ring_uses : {A : Type 0} → Vec Use A → List Arc
ring_uses r = map arc_of r.items

abbrev pub polygon_uses : {A : Type 0} → Vec (Vec Use A) A → List (List Arc)
polygon_uses p = map ring_uses p.items

abbrev pub feature_uses : {A : Type 0} → Vec (Vec (Vec Use A) A) A → List (List (List Arc))
feature_uses f = map polygon_uses f.items

abbrev pub positions_of : {A : Type 0} → Vec Position A → List Position
positions_of v = v.items

abbrev pub polygon_positions : {A : Type 0} → Vec (Vec Position A) A → List (List Position)
polygon_positions p = map positions_of p.items

abbrev pub feature_positions :
    {A : Type 0} → Vec (Vec (Vec Position A) A) A → List (List (List Position))
feature_positions f = map polygon_positions f.items

-- all positions of a polygon, and of a feature
abbrev pub polygon_corners : {A : Type 0} → Vec (Vec Position A) A → List Position
polygon_corners p = flat_map positions_of p.items

abbrev pub feature_corners : {A : Type 0} → Vec (Vec (Vec Position A) A) A → List Position
feature_corners f = flat_map polygon_corners f.items
