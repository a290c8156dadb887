use Rattle.kit_words.proofs.Common.{◌≡◌, ◌+◌, length, drop, map}
use Rattle.std.specs.Prelude.{sum_by}
use Rattle.segment_paths.specs.Common.{path_of_segment}
use Rattle.segment_paths.proofs.ways.room_after.Given as goal

-- the room that is left, and what is left of the sum
abbrev pub invariant-loop-path : goal.invariant-loop-path
invariant-loop-path g l =
    l.room + sum_by (λ p. length p.1) (map path_of_segment l.paths) ≡ l.most + sum_by (λ p. length p.1) (map path_of_segment (drop l.path-index l.paths))
