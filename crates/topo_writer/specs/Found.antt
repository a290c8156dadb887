-- Arcs found by the edges that they begin and end with.
use Rattle.std.specs.Prelude.{ℕ, ◌-◌, ◌+◌, ◌≤◌, ℤ, pos, negsuc, false, if◌then◌else◌, List, [], ◌∷◌}
use Rattle.std.specs.Prelude.{◌++◌, get_or, length, Option, None, Some, is_some, ◌≡◌}
use Rattle.grid_geometry.specs.Common.{Position, position, Edge}
use Rattle.ring_machine.specs.Common.{edge_eq}

-- the position at a place
abbrev pub at_place : List Position → ℕ → Position
at_place ps i = get_or ps i (position (pos 0) (pos 0))

-- from the first position to the second
abbrev pub first_edge : List Position → Edge
first_edge ps = (at_place ps 0, at_place ps 1)

-- from the last position to the last but one
abbrev pub last_edge : List Position → Edge
last_edge ps = (at_place ps (length ps - 1), at_place ps (length ps - 2))

-- the index of the arc that begins with the edge, in its direction or in reverse; arcs are counted
-- from n
abbrev pub found_from : ℕ → List (List Position) → Edge → Option ℤ
found_from n [] e = None
found_from n (a ∷ arcs) e =
    if edge_eq (first_edge a) e then Some (pos n)
    else (if edge_eq (last_edge a) e then Some (negsuc n)
    else found_from (n + 1) arcs e)

-- the index of the arc that begins with the edge
abbrev pub arc_found : List (List Position) → Edge → Option ℤ
arc_found arcs e = found_from 0 arcs e

-- a piece whose first edge is not found becomes the next arc
abbrev pub with_found : List (List Position) → List Position → List (List Position)
with_found arcs piece =
    if is_some (arc_found arcs (first_edge piece)) then arcs else (arcs ++ piece ∷ [])

-- what is kept by edges is what is found
abbrev pub KeepsFound : (Edge → Option ℤ) → List (List Position) → Type 0
KeepsFound kept arcs = (e : Edge) → kept e ≡ arc_found arcs e

-- a table that keeps so many arcs by edges has these
pub record HasArcs (kept : Edge → Option ℤ) (count : ℕ) (arcs : List (List Position)) : Type 0 where
  pub mirrors : KeepsFound kept arcs
  pub counts : count ≡ length arcs

-- the piece may stand beside the arcs: an edge then still names one of them
pub record Fits (arcs : List (List Position)) (piece : List Position) : Type 0 where
  pub long : 2 ≤ length piece
  pub apart : edge_eq (first_edge piece) (last_edge piece) ≡ false
  pub both : arc_found arcs (first_edge piece) ≡ None → arc_found arcs (last_edge piece) ≡ None
