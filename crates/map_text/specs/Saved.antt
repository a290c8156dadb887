-- When a text keeps a document: it means the document, and each border stands in it once.
use Rattle.std.specs.Prelude.{◌≡◌, ℕ, ◌++◌, List, [], ◌∷◌, IsTrue, IsFalse, Bool, if◌then◌else◌}
use Rattle.std.specs.List.{list_any, count_by, AllByRecursion}
use Rattle.grid_geometry.specs.Common.{Position, Segment, segment_eq}
use Rattle.ring_machine.specs.Common.{Document, is_segment, Same, is_junction, arc_segments}
use Rattle.topo_reader.specs.Common.{Reads}

-- the arc begins and ends at a junction and has none between, or it is closed and has none
pub data IsCut (junction : Position → Bool) (arc : List Position) : Type 0 where
  between : (p q : Position) (inner : List Position) → arc ≡ p ∷ inner ++ q ∷ [] →
      IsTrue (junction p) → IsTrue (junction q) → IsFalse (list_any junction inner) →
      IsCut junction arc
  closed : (p : Position) (inner : List Position) → arc ≡ p ∷ inner ++ p ∷ [] →
      IsFalse (list_any junction (p ∷ inner)) → IsCut junction arc

-- a segment of the document stands in exactly one of the arcs and there once, and no other segment
-- stands in any; each arc is cut at the junctions of the document and nowhere else
pub record HasEachOnce (d : Document) (arcs : List (List Position)) : Type 0 where
  pub once : (s : Segment)
      → count_by (segment_eq s) (arc_segments arcs) ≡ (if is_segment d s then 1 else 0)
  pub cut : AllByRecursion (IsCut (is_junction d)) arcs

-- the bytes are a text that means the document, but for the numbers of its features, and whose arcs
-- have each border of it once
pub record Saved (bytes : List ℕ) (d : Document) : Type 0 where
  pub meaning : Document
  pub reads : Reads bytes meaning
  pub same : Same d meaning
  pub borders : HasEachOnce d reads.arcs
