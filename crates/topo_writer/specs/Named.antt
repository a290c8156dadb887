-- Rings of a document that are named one after another, and their arcs.
use Rattle.std.specs.Prelude.{Bool, List, [], map}
use Rattle.grid_geometry.specs.Common.{Position}
use Rattle.ring_machine.specs.Common.{Document, Text, is_junction}
use Rattle.map_text.specs.Common.{pieces, arc_text, commas}
use Rattle.topo_writer.specs.Reading.{positions_at}
use Rattle.topo_writer.specs.Ways.{arcs_with}
use Rattle.topo_writer.specs.declared.arcs.RingName.{RingName}

-- the positions of the ring that is named so; none where the document has no such ring
abbrev pub named_ring : Document → RingName → List Position
named_ring d name = positions_at d name.feature name.polygon name.ring

-- the pieces of the ring that is named so
abbrev pub named_pieces : Document → RingName → List (List Position)
named_pieces d name = pieces (is_junction d) (named_ring d name)

-- arcs, with commas between them; whether there is a transform
abbrev pub listed_arcs : Bool → List (List Position) → Text
listed_arcs delta arcs = commas (map (arc_text delta) arcs)

-- the arcs after the rings with these names
abbrev pub arcs_along : Document → List RingName → List (List Position)
arcs_along d names = arcs_with d [] (map (named_ring d) names)
