use Rattle.kit_words.proofs.Common.{ap, length, arith, sym, ◌∙◌, All-same, All-push, All-drop}
use Rattle.segment_paths.specs.Common.{IsPiece, IsLinkOf}
use Rattle.segment_paths.proofs.Led.{at_place}
use Rattle.segment_paths.proofs.Linked.{same_as}
use Rattle.segment_paths.proofs.link.push_pieces.Goals as goal

pub loop-piece-preserved : goal.loop-piece-preserved
loop-piece-preserved g c = record {
  kept = λ ss paths h k.
      All-same (IsPiece ss paths) _ _ c.in_ok-push.ensures.items (All-push (IsPiece ss paths) _ _ (c.loop-piece.invariant.kept ss paths h k)
      (at_place (IsPiece ss paths) c.split_at.result.1.now c.loop-piece.piece-index c.piece-item.result k c.loop-piece-test.true c.piece-item.is));
  same = λ h. All-same (IsLinkOf c.args.link) _ _ c.in_ok-push.ensures.items (All-push (IsLinkOf c.args.link) _ _ (c.loop-piece.invariant.same h) (same_as c.piece-item.result.link c.args.link (sym c.ne.ensures ∙ c.if-ne.false)));
  none = λ e. absurd (omega (arith, ap length e, c.loop-piece-test.true));
}

pub returns-after-loop-piece-clause-kept : goal.returns-after-loop-piece-clause-kept
returns-after-loop-piece-clause-kept g c ss paths h k =
    c.loop-piece.invariant.kept ss paths h (All-same (IsPiece ss paths) _ _ c.split_at.ensures.back (All-drop (IsPiece ss paths) c.partition_point-begin.result c.args.links.now k))

pub returns-then-ne-clause-kept : goal.returns-then-ne-clause-kept
returns-then-ne-clause-kept g c ss paths h k =
    c.loop-piece.invariant.kept ss paths h (All-same (IsPiece ss paths) _ _ c.split_at.ensures.back (All-drop (IsPiece ss paths) c.partition_point-begin.result c.args.links.now k))
