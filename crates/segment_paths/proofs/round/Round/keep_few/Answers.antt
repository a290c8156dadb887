use Rattle.kit_words.proofs.Common.{All-same}
use Rattle.segment_paths.specs.Common.{IsStop}
use Rattle.segment_paths.proofs.Conflicting.{has_more}
use Rattle.segment_paths.proofs.round.Round.keep_few.Goals as goal

pub returns-clause-fault : goal.returns-clause-fault
returns-clause-fault g c ss h =
    has_more ss c.args.most c.as_slice-2.result.now c.in_ok-paths.paths.items c.as_slice-2.ensures.value
    (c.in_ok-paths.ensures ss (All-same (IsStop ss) _ _ c.as_slice.ensures.value (c.sort_stops.ensures ss h)))
    c.in-None.ensures
