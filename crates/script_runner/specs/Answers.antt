-- The text of an answer.
use Rattle.std.specs.Prelude.{ℕ, List, ◌++◌, map, codes, decimal}
use Rattle.std.specs.List.{flat_map}
use Rattle.std.specs.Fmt.{signed_decimal}
use Rattle.grid_geometry.specs.Common.{Position, Segment}
use Rattle.ring_machine.specs.Common.{Refusal, NoFeature, NoVertex, NoSegment, Occupied, Junction, RingShort}
use Rattle.ring_machine.specs.Common.{SegmentExists, NoCollection, NotOnOuterRing, RepeatedPoint, WrongSide, TooLarge}
use Rattle.ring_machine.specs.Common.{SameFeature, NotOnePolygon, NotNeighbours, SameSide, NothingToUndo, Sweeps}
use Rattle.ring_machine.specs.Common.{Conflict, Runs, CommonElse, Answer, Done, Thinned, Made, AreaIs, AtIs}
use Rattle.ring_machine.specs.Common.{NeighboursAre, RingsAre, CountsAre, DocumentIs, Refused, Counts}
use Rattle.map_text.specs.Common.{list_text, pair_text, text_of}

-- both numbers, a space between them
abbrev pub position_text : Position → List ℕ
position_text p = signed_decimal p.x ++ (codes " " ++ signed_decimal p.y)

-- the lesser end, then the greater
abbrev pub segment_text : Segment → List ℕ
segment_text s = position_text s.lo ++ (codes " " ++ position_text s.hi)

abbrev pub refusal_text : Refusal → List ℕ
refusal_text NoFeature = codes "no feature"
refusal_text NoVertex = codes "no vertex"
refusal_text NoSegment = codes "no segment"
refusal_text Occupied = codes "occupied"
refusal_text Junction = codes "junction"
refusal_text RingShort = codes "ring short"
refusal_text SegmentExists = codes "segment exists"
refusal_text (Conflict s t) =
    codes "conflict " ++ (segment_text s ++ (codes " / " ++ segment_text t))
refusal_text NoCollection = codes "no collection"
refusal_text NotOnOuterRing = codes "not on outer ring"
refusal_text RepeatedPoint = codes "repeated point"
refusal_text WrongSide = codes "wrong side"
refusal_text TooLarge = codes "too large"
refusal_text SameFeature = codes "same feature"
refusal_text NotOnePolygon = codes "not one polygon"
refusal_text NotNeighbours = codes "not neighbours"
refusal_text (Runs n) = codes "runs " ++ decimal n
refusal_text (CommonElse p) = codes "common else " ++ position_text p
refusal_text SameSide = codes "same side"
refusal_text NothingToUndo = codes "nothing to undo"
refusal_text Sweeps = codes "sweeps"

-- a ring as a list of JSON (RFC 8259, 5): the pairs of its positions, the last one not repeated
abbrev pub ring_list_text : List Position → List ℕ
ring_list_text positions = list_text (map pair_text positions)

-- a polygon as the list of its rings, the outer ring first
abbrev pub polygon_list_text : List (List Position) → List ℕ
polygon_list_text rings = list_text (map ring_list_text rings)

-- a feature as the list of its polygons
abbrev pub polygons_text : List (List (List Position)) → List ℕ
polygons_text polygons = list_text (map polygon_list_text polygons)

-- each number after a space
abbrev pub spaced_numbers : List ℕ → List ℕ
spaced_numbers ns = flat_map (λ n. codes " " ++ decimal n) ns

-- the features that hold a position, and those that have it on a border
abbrev pub at_text : List ℕ → List ℕ → List ℕ
at_text inside border =
    codes "inside:" ++ (spaced_numbers inside ++ (codes " border:" ++ spaced_numbers border))

abbrev pub neighbours_text : List ℕ → List ℕ
neighbours_text ns = codes "neighbours:" ++ spaced_numbers ns

-- three numbers with what they count before them
abbrev pub numbers_text : ℕ → ℕ → ℕ → List ℕ
numbers_text features vertices segments =
    codes "features " ++ (decimal features ++ (codes " vertices " ++ (decimal vertices
    ++ (codes " segments " ++ decimal segments))))

abbrev pub counts_text : Counts → List ℕ
counts_text c = numbers_text c.feature_count c.vertex_count c.segment_count

-- the texts of the answers to the lines that there are
abbrev pub answer_text : Answer → List ℕ
answer_text Done = codes "ok"
answer_text (Thinned n) = codes "ok " ++ decimal n
answer_text (Made n) = codes "ok " ++ decimal n
answer_text (AreaIs z) = signed_decimal z
answer_text (AtIs inside border) = at_text inside border
answer_text (NeighboursAre ns) = neighbours_text ns
answer_text (RingsAre polygons) = polygons_text polygons
answer_text (CountsAre counts) = counts_text counts
answer_text (DocumentIs d) = text_of d
answer_text (Refused r) = codes "refused " ++ refusal_text r
