use Rattle.kit_words.proofs.Common.{◌≡◌, ◌+◌, [], None, All}
use Rattle.ring_machine.specs.Common.{least_conflict}
use Rattle.segment_paths.specs.Common.{inner_positions, paths_seen, IsStop, AreWays, IsPair}
use Rattle.segment_paths.proofs.search.find_paths.Given as goal

abbrev pub invariant-loop-round : goal.invariant-loop-round
invariant-loop-round g l = record {
  ways : AreWays l.segments l.ways;
  room : l.room + inner_positions (paths_seen l.ways.paths.items) ≡ l.most;
  stops : All (IsStop l.segments) l.round.stops.items;
  needed : least_conflict l.segments ≡ None → (l.round.conflict ≡ None) × (l.ways.paths.items ≡ []);
  conflict : IsPair l.segments l.ways l.round.conflict;
}

abbrev pub decreases-loop-round : goal.decreases-loop-round
decreases-loop-round g l = l.room
