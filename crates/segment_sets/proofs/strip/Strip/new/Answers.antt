use Rattle.segment_sets.proofs.Homes.{strip-empty}
use Rattle.segment_sets.proofs.strip.Strip.new.Goals as goal

pub invariant_of-result : goal.invariant_of-result
invariant_of-result g c = λ t. strip-empty c.args.count c.in_ok-empty_buckets.field-0.items t c.in_ok-empty_buckets.ensures
