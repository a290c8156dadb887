use Rattle.segment_paths.specs.Common.{IsRound}
use Rattle.segment_paths.proofs.round.Round.part_near.Given as goal

abbrev pub invariant-loop-other : goal.invariant-loop-other
invariant-loop-other g l = IsRound l.ways l.initial.self → IsRound l.ways l.self
