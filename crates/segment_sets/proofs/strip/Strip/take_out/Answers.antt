use Rattle.kit_words.proofs.Common.{◌≡◌, ◌<◌, length, ◌∙◌, get_or_default}
use Rattle.segment_sets.specs.Common.{cell}
use Rattle.segment_sets.proofs.Homes.{strip-lost}
use Rattle.segment_sets.proofs.strip.Strip.take_out.Goals as goal

pub invariant_of-self : goal.invariant_of-self
invariant_of-self g c =
    let cells = c.self.inside.buckets.items in
    let here : c.args.place < length cells = rw (← c.self.view_is) at c.requires in
    let read : c.index_mut.result.now ≡ cell cells c.args.place = c.index_mut.ensures.value ∙ get_or_default cells c.args.place _ _ here in
    strip-lost c.self.inside.bounds c.args.entry.now cells c.args.place c.take_out.new.self here c.self.invariant (rw read at c.take_out.ensures.lost)
