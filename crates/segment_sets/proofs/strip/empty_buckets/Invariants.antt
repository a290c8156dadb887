use Rattle.kit_words.proofs.Common.{◌≡◌, [], replicate}
use Rattle.segment_sets.proofs.strip.empty_buckets.Given as goal

abbrev pub invariant-loop : goal.invariant-loop
invariant-loop g l = l.buckets.items ≡ replicate l.counter []
