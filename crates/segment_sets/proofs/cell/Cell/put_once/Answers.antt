use Rattle.kit_words.proofs.Common.{◌≡◌, refl, false}
use Rattle.segment_sets.specs.Common.{has}
use Rattle.segment_sets.proofs.Singles.{single-once, had-once}
use Rattle.segment_sets.proofs.cell.Cell.put_once.Goals as goal

pub returns-in-None-clause-single : goal.returns-in-None-clause-single
returns-in-None-clause-single g c =
    let none : has c.self.inside.items.items c.args.s ≡ false =
    rw c.deref.ensures.value at (c.in-None.ensures.none refl) in
    single-once c.put.result c.args.self.now c.put.new.self c.args.s c.requires (rw c.self.view_is at none) c.put.ensures.put

pub returns-in-None-clause-had : goal.returns-in-None-clause-had
returns-in-None-clause-had g c =
    had-once c.put.result c.args.self.now c.put.new.self c.args.s c.put.ensures.put
