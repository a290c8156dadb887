use Rattle.kit_words.proofs.Common.{on_ok_weaker}
use Rattle.undo_ring.proofs.near.Near.prepare.Goals as goal

pub returns-in-Move-clause-ready : goal.returns-in-Move-clause-ready
returns-in-Move-clause-ready g c =
    rw c.in-Move.is
    (on_ok_weaker c.grow.result (λ grown docs h. grown c.args.map.now.doc docs h) c.grow.ensures.grown)

pub returns-in-Insert-clause-ready : goal.returns-in-Insert-clause-ready
returns-in-Insert-clause-ready g c =
    rw c.in-Insert.is
    (on_ok_weaker c.grow-in-Insert.result (λ grown docs h. grown c.args.map.now.doc docs h) c.grow-in-Insert.ensures.grown)
