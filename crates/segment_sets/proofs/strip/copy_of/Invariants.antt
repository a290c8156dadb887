use Rattle.kit_words.proofs.Common.{◌≡◌, take}
use Rattle.segment_sets.proofs.strip.copy_of.Given as goal

abbrev pub invariant-loop-bucket : goal.invariant-loop-bucket
invariant-loop-bucket g l = l.copied.items ≡ take l.bucket-index l.buckets.items
