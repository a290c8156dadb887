use Rattle.kit_words.proofs.Common.{◌∷◌, [], append-nil, sym}
use Rattle.std.proofs.lemmas.List.{replicate_more}
use Rattle.cover_report.proofs.ToldLemmas.{longer}
use Rattle.cover_report.proofs.layers.push_owner.Goals as goal

pub loop-init : goal.loop-init
loop-init g c = sym (append-nil c.args.owners.now.items)

pub loop-preserved : goal.loop-preserved
loop-preserved g c =
    longer c.args.owners.now.items c.push.new.self.items _ c.loop.owners.items (c.args.number ∷ []) _
    c.in_ok-push.ensures.items c.loop.invariant (sym (replicate_more c.loop.counter c.args.number))
