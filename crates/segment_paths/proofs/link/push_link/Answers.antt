use Rattle.kit_words.proofs.Common.{All-same, All-push}
use Rattle.segment_paths.specs.Common.{IsPiece}
use Rattle.segment_paths.proofs.Led.{link_known}
use Rattle.segment_paths.proofs.link.push_link.Goals as goal

pub returns-in_ok-push : goal.returns-in_ok-push
returns-in_ok-push g c ss paths h there from to has =
    All-same (IsPiece ss paths) _ _ c.in_ok-push.ensures.items
    (All-push (IsPiece ss paths) _ _ h (link_known ss paths c.args.owner c.args.from c.args.to c.in-Some.link there from to has c.in-Some.ensures.some))
