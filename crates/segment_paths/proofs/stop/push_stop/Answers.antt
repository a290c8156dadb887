use Rattle.kit_words.proofs.Common.{All-same, All-push}
use Rattle.segment_paths.specs.Common.{IsStop}
use Rattle.segment_paths.proofs.stop.push_stop.Goals as goal

pub returns : goal.returns
returns g c ss paths h piece known =
    All-same (IsStop ss) _ _ c.in_ok-push.ensures.items (All-push (IsStop ss) _ _ h (record { among = piece.among; known = known }))
