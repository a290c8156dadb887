use Rattle.kit_words.proofs.Common.{All-same, All-dedup, dedup_is, All-permutation}
use Rattle.segment_paths.specs.Common.{IsStop}
use Rattle.segment_paths.proofs.stop.sort_stops.Goals as goal

pub returns : goal.returns
returns g c ss h =
    All-same (IsStop ss) _ _ (dedup_is _ _ _ c.dedup.ensures.filtered)
    (All-dedup _ (IsStop ss) _ (All-permutation (IsStop ss) _ _ c.sort_unstable.ensures.permutation h))
