-- The edges on which a position lies, and numbers in order.
use Rattle.std.specs.Prelude.{ℕ, ◌<◌, ◌↔◌, List, [], ◌∷◌, Contains, IsTrue, if◌then◌else◌}
use Rattle.std.specs.List.{AllByRecursion}
use Rattle.grid_geometry.specs.Common.{is_on, Position, Edge, Segment}
use Rattle.ring_machine.specs.Common.{Document, is_segment}

-- the edge of a segment on which p lies
abbrev pub on_edge : Position → Segment → List Edge
on_edge p s = if is_on p s.lo s.hi then (s.lo, s.hi) ∷ [] else []

-- each number is less than all after it
abbrev pub Rises : List ℕ → Type 0
Rises [] = Unit {0}
Rises (n ∷ ns) = AllByRecursion (λ m. n < m) ns × Rises ns

-- the same numbers, ascending, each once
pub record IsSorted (old new : List ℕ) : Type 0 where
  pub rises : Rises new
  pub same : (m : ℕ) → Contains new m ↔ Contains old m

-- all are segments of the document
abbrev pub AreSegments : Document → List Segment → Type 0
AreSegments d ss = (s : Segment) → Contains ss s → IsTrue (is_segment d s)
