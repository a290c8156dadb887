use Rattle.segment_paths.specs.Common.{IsRound}
use Rattle.segment_paths.proofs.round.play.Given as goal

abbrev pub invariant-loop-link : goal.invariant-loop-link
invariant-loop-link g l = IsRound l.ways l.round
