use Rattle.kit_words.proofs.Common.{◌≡◌, [], replicate}
use Rattle.segment_sets.proofs.directory.empty_strips.Given as goal

abbrev pub invariant-loop : goal.invariant-loop
invariant-loop g l = l.strips.items ≡ replicate l.counter (replicate l.region.columns [])
