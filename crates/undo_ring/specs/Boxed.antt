-- Which documents the boxes of an editor cover: the one that it holds, and those from before its newest
-- changes, so that a change that is taken back needs none anew.
use Rattle.std.specs.Prelude.{ℕ, suc, ◌≡◌, ◌≤◌, List, ◌∷◌, take, Option, None, Some, Contains, IfSome}
use Rattle.std.specs.List.{AllByRecursion}
use Rattle.grid_geometry.specs.Common.{Position}
use Rattle.ring_machine.specs.Common.{Document, rings, Command, Move, Insert, Split, Merge}
use Rattle.segment_index.specs.Common.{SegmentSet}
use Rattle.point_queries.specs.Common.{CoversRings, IsCovered, KeepsCovered}
use Rattle.point_queries.specs.Common.{CoversFeature}
use Rattle.undo_ring.specs.declared.near.Near.{Near}

-- each ring of these documents lies in one of the boxes
abbrev pub AreCovered : SegmentSet → List Document → Type 0
AreCovered boxes docs = AllByRecursion (λ d. CoversRings boxes (rings d)) docs

-- the boxes, if there are any, cover the first of the documents, and so many after it
abbrev pub CoversSince : {A : Type 0} → Near A → List Document → Type 0
CoversSince near docs = IfSome near.boxes (λ boxes. AreCovered boxes (take (suc near.since) docs))

-- wherever a ring has p, it lies in one of the boxes together with q
abbrev pub HasGrown : Document → Position → Position → SegmentSet → Type 0
HasGrown d p q boxes =
    (ring : List Position) → Contains (rings d) ring → Contains ring p → IsCovered boxes (q ∷ ring)

-- the boxes have what the command puts into a ring
abbrev pub HasComing : Document → Command → SegmentSet → Type 0
HasComing d (Move p q) boxes = HasGrown d p q boxes
HasComing d (Insert a b q) boxes = HasGrown d a q boxes
HasComing d c boxes = Unit {0}

-- the features whose rings become others by the command, where it makes some: two, or one twice; a new
-- one has the next number
abbrev pub touched_by : ℕ → Command → Option (ℕ × ℕ)
touched_by next (Split n id path) = Some (n, next)
touched_by next (Merge n m) = Some (n, n)
touched_by next c = None

-- after a change that made other rings of these features: the boxes cover them
abbrev pub HasCome : SegmentSet → Document → Option (ℕ × ℕ) → Type 0
HasCome boxes d touched =
    IfSome touched (λ both. CoversFeature boxes d both.0 × CoversFeature boxes d both.1)

-- after one more change to the document, the boxes are those from before, and what came is in them
pub record GrowsWith {A : Type 0} (old new : Near A) (d : Document) (touched : Option (ℕ × ℕ))
    : Type 0 where
  pub since : new.since ≤ suc old.since
  pub boxes : IfSome new.boxes (λ boxes. (before : SegmentSet) × (old.boxes ≡ Some before)
      × KeepsCovered before boxes × HasCome boxes d touched)
