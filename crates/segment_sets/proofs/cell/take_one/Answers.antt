use Rattle.kit_words.proofs.Common.{◌≡◌, ◌<◌, ◌∙◌, length, get_or, refl, sym, false, get_or_default}
use Rattle.segment_sets.specs.Common.{has}
use Rattle.segment_sets.proofs.Singles.{loses-swap_remove, loses-none, has-at}
use Rattle.segment_sets.proofs.cell.take_one.Goals as goal

pub returns-in-Some-clause-lost : goal.returns-in-Some-clause-lost
returns-in-Some-clause-lost g c =
    let xs = c.args.items.now.items in
    let some : (c.in-Some.place < length xs) × (get_or xs c.in-Some.place c.args.s ≡ c.args.s) = rw c.deref.ensures.value at c.in-Some.ensures.some in
    loses-swap_remove xs c.swap_remove.new.self.items c.args.s c.in-Some.place c.swap_remove.result some.0 (get_or_default xs c.in-Some.place c.swap_remove.result c.args.s some.0 ∙ some.1) c.swap_remove.ensures.items

pub returns-in-Some-clause-found : goal.returns-in-Some-clause-found
returns-in-Some-clause-found g c =
    let xs = c.args.items.now.items in
    let some : (c.in-Some.place < length xs) × (get_or xs c.in-Some.place c.args.s ≡ c.args.s) = rw c.deref.ensures.value at c.in-Some.ensures.some in
    sym (has-at xs c.args.s c.in-Some.place some.0 some.1)

pub returns-in-None-clause-lost : goal.returns-in-None-clause-lost
returns-in-None-clause-lost g c =
    let none : has c.args.items.now.items c.args.s ≡ false = rw c.deref.ensures.value at (c.in-None.ensures.none refl) in
    loses-none c.args.items.now.items c.args.s none
