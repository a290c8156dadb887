-- The text of the topology that a GeoJSON object becomes, and which parts of it are copies.
use Rattle.std.specs.Prelude.{ℕ, ◌+◌, List, [], ◌∷◌, ◌++◌, length, Bool, true, false, codes, decimal, Result, Ok}
use Rattle.std.specs.List.{flat_map}
use Rattle.json_spans.specs.Common.{Node, items}
use Rattle.topo_outline.specs.Common.{Fault, ◌>>=◌}
use Rattle.geo_topology.specs.declared.object.GeoObject.{GeoObject}
use Rattle.geo_topology.specs.Pieces.{TextPiece, words, copied, rings, polygons}
use Rattle.geo_topology.specs.Features.{layer_pieces}

-- ---- the indexes of arcs (TopoJSON 1.0, 2.1.4): each ring is the next arc

abbrev pub comma_text : Bool → List ℕ
comma_text true = []
comma_text false = codes ","

-- a ring, which is arc k
abbrev pub ring_index_text : ℕ → List ℕ
ring_index_text k = codes "[" ++ (decimal k ++ codes "]")

-- rings, the first of which is arc k
unfoldable pub ring_texts : ℕ → Bool → List Node → List ℕ
ring_texts k first [] = []
ring_texts k first (r ∷ rs) = comma_text first ++ (ring_index_text k ++ ring_texts (k + 1) false rs)

-- a polygon, a list of rings
abbrev pub polygon_index_text : ℕ → Node → List ℕ
polygon_index_text k n = codes "[" ++ (ring_texts k true (items n) ++ codes "]")

unfoldable pub polygon_texts : ℕ → Bool → List Node → List ℕ
polygon_texts k first [] = []
polygon_texts k first (p ∷ ps) =
    comma_text first ++ (polygon_index_text k p ++ polygon_texts (k + length (items p)) false ps)

-- several polygons
abbrev pub polygons_index_text : ℕ → Node → List ℕ
polygons_index_text k n = codes "[" ++ (polygon_texts k true (items n) ++ codes "]")

-- the rings of a piece, in order
abbrev pub rings_of_piece : TextPiece → List Node
rings_of_piece (words w) = []
rings_of_piece (copied n) = []
rings_of_piece (rings n) = items n
rings_of_piece (polygons n) = flat_map items (items n)

-- ---- what stands in the text

-- words that are made, or a copy of a part of the file
pub data TextSegment : Type 0 where
  made : List ℕ → TextSegment
  copy : Node → TextSegment

-- a piece before which so many arcs were named
abbrev pub segment_of_piece : ℕ → TextPiece → TextSegment
segment_of_piece k (words w) = made w
segment_of_piece k (copied n) = copy n
segment_of_piece k (rings n) = made (polygon_index_text k n)
segment_of_piece k (polygons n) = made (polygons_index_text k n)

unfoldable pub segments_from : ℕ → List TextPiece → List TextSegment
segments_from k [] = []
segments_from k (p ∷ ps) = segment_of_piece k p ∷ segments_from (k + length (rings_of_piece p)) ps

abbrev pub comma_segment : Bool → List TextSegment
comma_segment true = []
comma_segment false = made (codes ",") ∷ []

-- the arcs, each ring as it stands (TopoJSON 1.0, 2.1.3)
unfoldable pub ring_segments : Bool → List Node → List TextSegment
ring_segments first [] = []
ring_segments first (r ∷ rs) = comma_segment first ++ (copy r ∷ ring_segments false rs)

-- the whole topology
abbrev pub text_segments : List TextPiece → List TextSegment
text_segments ps =
    segments_from 0 ps ++ (made (codes "}},\"arcs\":[") ∷ []
    ++ (ring_segments true (flat_map rings_of_piece ps) ++ made (codes "]}") ∷ []))

-- ---- its text and its copied parts

abbrev pub bytes_of : TextSegment → List ℕ
bytes_of (made w) = w
bytes_of (copy n) = n.bytes

abbrev pub segments_text : List TextSegment → List ℕ
segments_text ss = flat_map bytes_of ss

-- a part of the made text that is a copy: where it begins there and in the file, and how long it is
pub record CopiedPart : Type 0 where
  pub made : ℕ
  pub file : ℕ
  pub len : ℕ

abbrev pub part_at : ℕ → TextSegment → List CopiedPart
part_at place (made w) = []
part_at place (copy n) =
    record { made = place; file = n.at_byte; len = length n.bytes } ∷ []

-- the copies among text_segments that begin at this place
unfoldable pub copies_from : ℕ → List TextSegment → List CopiedPart
copies_from place [] = []
copies_from place (s ∷ ss) = part_at place s ++ copies_from (place + length (bytes_of s)) ss

-- a text and its copied parts
pub record MadeOf : Type 0 where
  pub text : List ℕ
  pub parts : List CopiedPart

abbrev pub made_by_segments : List TextSegment → MadeOf
made_by_segments ss = record { text = segments_text ss; parts = copies_from 0 ss }

-- what a GeoJSON object becomes, or its first fault
abbrev pub topology_made : GeoObject → Node → Result MadeOf Fault
topology_made o root = layer_pieces o root >>= λ ps. Ok (made_by_segments (text_segments ps))
