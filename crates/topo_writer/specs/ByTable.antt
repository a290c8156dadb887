-- The texts of what a map has, by the indexes of the arcs that stand in a table.
use Rattle.std.specs.Prelude.{ℕ}
use Rattle.ring_machine.specs.Common.{Document, Feature, Form, Text, is_junction}
use Rattle.topo_writer.specs.declared.arcs.Arcs.{Arcs}
use Rattle.topo_writer.specs.declared.arcs.RingName.{RingName}
use Rattle.topo_writer.specs.Named.{named_ring}
use Rattle.topo_writer.specs.Reading.{polygons_at, rings_at}
use Rattle.topo_writer.specs.Tables.{arcs_in}
use Rattle.topo_writer.specs.Ways.{written_feature, written_polygon, written_polygons}
use Rattle.topo_writer.specs.Ways.{written_ring, written_shape}

module _ {A : Type 0} where
  -- the ring that is named so
  abbrev pub text_of_ring : Document → Arcs A → RingName → Text
  text_of_ring d table name = written_ring (is_junction d) (arcs_in d table) (named_ring d name)

  -- the polygon with this number of a feature
  abbrev pub text_of_polygon : Document → Arcs A → ℕ → ℕ → Text
  text_of_polygon d table n polygon =
      written_polygon (is_junction d) (arcs_in d table) (rings_at d n polygon)

  -- all polygons of a feature, with commas between them
  abbrev pub text_of_polygons : Document → Arcs A → ℕ → Text
  text_of_polygons d table n =
      written_polygons (is_junction d) (arcs_in d table) (polygons_at d n)

  -- all polygons of a feature of this form as its member `arcs`, after a comma
  abbrev pub text_of_shape : Document → Arcs A → Form → ℕ → Text
  text_of_shape d table form n =
      written_shape (is_junction d) (arcs_in d table) form (polygons_at d n)

  -- a feature
  abbrev pub text_of_feature : Document → Arcs A → Feature → Text
  text_of_feature d table f = written_feature (is_junction d) (arcs_in d table) f
