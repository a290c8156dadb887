-- What the code holds, as the definitions see it.
use Rattle.std.specs.Prelude.{map}
use Rattle.json_spans.specs.Common.{node}
use Rattle.geo_topology.specs.declared.entry.Entry.{Entry}
use Rattle.geo_topology.specs.declared.chunk.Chunk.{Chunk}
use Rattle.geo_topology.specs.declared.chunk.Chunk.TheVariants as chunk
use Rattle.geo_topology.specs.declared.part.Part.{Part}
use Rattle.geo_topology.specs.declared.made.MadeText.{MadeText}
use Rattle.geo_topology.specs.Members.{Named}
use Rattle.geo_topology.specs.Pieces.{TextPiece, words, copied, rings, polygons}
use Rattle.geo_topology.specs.Text.{CopiedPart, MadeOf}

abbrev pub view_named : Entry → Named
view_named e = record { word = e.word; name = node e.name; value = node e.value }

abbrev pub view_chunk : Chunk → TextPiece
view_chunk (chunk.Words w) = words w.now
view_chunk (chunk.Copied n) = copied (node n)
view_chunk (chunk.Rings n) = rings (node n)
view_chunk (chunk.Polygons n) = polygons (node n)

abbrev pub view_part : Part → CopiedPart
view_part p = record { made = p.made; file = p.file; len = p.len }

abbrev pub view_made : {A : Type 0} → MadeText A → MadeOf
view_made m = record { text = m.text.items; parts = map view_part m.parts.items }
