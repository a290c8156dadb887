-- The boxes of a feature.
use Rattle.std.specs.Prelude.{◌≡◌, ℕ, Contains}
use Rattle.ring_machine.specs.Common.{Document, Feature, features, rings_of}
use Rattle.segment_index.specs.Common.{SegmentSet}
use Rattle.point_queries.specs.Covering.{CoversRings}

-- each ring of a feature with this number lies in one of the boxes
abbrev pub CoversFeature : SegmentSet → Document → ℕ → Type 0
CoversFeature boxes d n =
    (f : Feature) → Contains (features d) f → f.number ≡ n → CoversRings boxes (rings_of f)
