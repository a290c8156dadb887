-- How many tests of two segments a pass of thinning takes at most.
use Rattle.std.specs.Prelude.{ℕ, ◌+◌, ℤ, not, ◌&&◌, if◌then◌else◌, List, [], ◌∷◌}
use Rattle.grid_geometry.specs.Common.{Position, Segment, Box}
use Rattle.ring_machine.specs.Common.{Document, vertices, Thinning, is_flat, thin_at, del, is_junction}
use Rattle.local_planarity.specs.Common.{most_for}

-- at one vertex: those of its removal, where that is tried, and else none
abbrev pub most_at : (Segment → Box → ℕ) → ℤ → Document → Position → ℕ
most_at times t d p =
    if not (is_junction d p) && is_flat t d p then most_for times d (del d p) else 0

-- over these vertices, one after the other, each in the document as it is then
abbrev pub most_over : (Segment → Box → ℕ) → ℤ → Thinning → List Position → ℕ
most_over times t so_far [] = 0
most_over times t so_far (p ∷ ps) =
    most_at times t so_far.doc p + most_over times t (thin_at t so_far p) ps

-- over the vertices of the document, in ascending order
unfoldable pub most_for_thin : (Segment → Box → ℕ) → ℤ → Document → ℕ
most_for_thin times t d = most_over times t (record { doc = d; removed = 0 }) (vertices d)
