-- The arcs of a text: rings cut at junctions, each border taken once, and rings named by arcs.
use Rattle.std.specs.Prelude.{ℕ, ◌+◌, ℤ, pos, negsuc, Bool, true, false, ◌&&◌, ◌||◌}
use Rattle.std.specs.Prelude.{if◌then◌else◌, List, [], ◌∷◌, ◌++◌, map, reverse, Option, None, Some}
use Rattle.std.specs.Prelude.{unwrap_or}
use Rattle.std.specs.List.{list_any, flat_map, fold}
use Rattle.grid_geometry.specs.Common.{Position, position_eq}
use Rattle.ring_machine.specs.Common.{DocumentOf, Document, rings, in_rings, is_junction}

-- ---- a ring, cut at its junctions (TopoJSON 1.0, 2.1.3)

-- the positions before the first that passes the test
abbrev pub before_first : (Position → Bool) → List Position → List Position
before_first test [] = []
before_first test (p ∷ ps) = if test p then [] else (p ∷ before_first test ps)

-- the positions from the first that passes the test on
abbrev pub from_first : (Position → Bool) → List Position → List Position
from_first test [] = []
from_first test (p ∷ ps) = if test p then (p ∷ ps) else from_first test ps

-- the ring begun at its first junction; one without junctions stays as it is
abbrev pub begun : (Position → Bool) → List Position → List Position
begun junction ring = from_first junction ring ++ before_first junction ring

-- the pieces with p put before the first one
abbrev pub led_from : Position → List (List Position) → List (List Position)
led_from p [] = []
led_from p (piece ∷ pieces) = (p ∷ piece) ∷ pieces

-- the way from p over the others, cut at each junction between its ends
abbrev pub cut_way : (Position → Bool) → Position → List Position → List (List Position)
cut_way junction p [] = []
cut_way junction p (q ∷ []) = (p ∷ q ∷ []) ∷ []
cut_way junction p (q ∷ r ∷ ps) =
    if junction q
    then ((p ∷ q ∷ []) ∷ cut_way junction q (r ∷ ps))
    else led_from p (cut_way junction q (r ∷ ps))

-- the way from the first position round to it again, cut
abbrev pub cut_round : (Position → Bool) → List Position → List (List Position)
cut_round junction [] = []
cut_round junction (p ∷ ps) = cut_way junction p (ps ++ p ∷ [])

-- the pieces of a ring, from its first junction on: from junction to junction in the ring's
-- direction, or all of it from its least position back to it where it has no junction
abbrev pub pieces : (Position → Bool) → List Position → List (List Position)
pieces junction ring = cut_round junction (begun junction ring)

-- ---- arcs

-- both lists have the same positions in the same order
abbrev pub are_equal : List Position → List Position → Bool
are_equal [] [] = true
are_equal [] (q ∷ qs) = false
are_equal (p ∷ ps) [] = false
are_equal (p ∷ ps) (q ∷ qs) = position_eq p q && are_equal ps qs

-- the index of a piece among the arcs, counted from n on: that of its arc, or the ones' complement
-- of it where the piece goes through the arc in reverse (TopoJSON 1.0, 2.1.4)
abbrev pub index_from : ℕ → List (List Position) → List Position → Option ℤ
index_from n [] piece = None
index_from n (arc ∷ arcs) piece =
    if are_equal arc piece then Some (pos n)
    else (if are_equal (reverse arc) piece then Some (negsuc n)
    else index_from (n + 1) arcs piece)

-- the piece is one of the arcs, in its direction or in reverse
abbrev pub is_arc : List (List Position) → List Position → Bool
is_arc arcs piece = list_any (λ a. are_equal a piece || are_equal (reverse a) piece) arcs

-- a piece that is no arc yet becomes the next one
abbrev pub with_piece : List (List Position) → List Position → List (List Position)
with_piece arcs piece = if is_arc arcs piece then arcs else (arcs ++ piece ∷ [])

-- the arcs after these pieces
abbrev pub with_pieces : List (List Position) → List (List Position) → List (List Position)
with_pieces arcs all = fold with_piece arcs all

-- the arcs of a document: its rings in their order, cut at its junctions, each border once
abbrev pub arcs_of : Document → List (List Position)
arcs_of d = with_pieces [] (flat_map (pieces (is_junction d)) (rings d))

-- ---- rings by arcs

-- the index of a piece that is one of the arcs
abbrev pub index_of : List (List Position) → List Position → ℤ
index_of arcs piece = unwrap_or (index_from 0 arcs piece) (pos 0)

-- the indexes of a ring's pieces, from the first piece on
abbrev pub indexes : (Position → Bool) → List (List Position) → List Position → List ℤ
indexes junction arcs ring = map (index_of arcs) (pieces junction ring)

-- the document with each ring as the indexes of its arcs
abbrev pub indexed : Document → DocumentOf (List ℤ)
indexed d = in_rings (indexes (is_junction d) (arcs_of d)) d
