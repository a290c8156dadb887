-- What it means that an edit leaves every position on its side of every ring.
use Rattle.std.specs.Prelude.{ℕ, ◌≡◌, List, Option, Some, IsTrue, IsFalse, slice_get}
use Rattle.std.specs.Option.{option_and_then}
use Rattle.grid_geometry.specs.Common.{Position, is_inside}
use Rattle.ring_machine.specs.Ring.{has}
use Rattle.ring_machine.specs.Document.{Document, Feature}
use Rattle.ring_machine.specs.Parts.{feature, is_vertex}

-- ring j of polygon i of the feature, both counted from 0
abbrev pub ring_of_feature : ℕ → ℕ → Feature → Option (List Position)
ring_of_feature i j f = option_and_then (λ polygon. slice_get polygon j) (slice_get f.polygons i)

-- ring j of polygon i of feature n
abbrev pub ring_at : Document → ℕ → ℕ → ℕ → Option (List Position)
ring_at d n i j = option_and_then (ring_of_feature i j) (feature d n)

-- a position of both documents that is none of a ring is inside the ring after exactly when it was
-- before
abbrev pub KeepsSides : Document → Document → Type 0
KeepsSides before after =
    (n i j : ℕ) (r s : List Position) (w : Position)
    → ring_at before n i j ≡ Some r → ring_at after n i j ≡ Some s
    → IsTrue (is_vertex before w) → IsTrue (is_vertex after w) → IsFalse (has r w)
    → is_inside w s ≡ is_inside w r
