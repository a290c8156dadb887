use Rattle.kit_words.proofs.Common.{◌∙◌}
use Rattle.ring_store.proofs.CountLemmas.{same_index}
use Rattle.ring_store.proofs.Planned.{still_held, gained_among, exchanged, came_and_went}
use Rattle.ring_store.proofs.changes.shift.Goals as goal

pub discard_all-requires-clause-held : goal.discard_all-requires-clause-held
discard_all-requires-clause-held g c =
    gained_among c.args.tables.now.index.held c.add_all.new.index.held c.args.after.now c.in_ok-add_all.ensures.gained

pub returns-in-Err-clause-unchanged : goal.returns-in-Err-clause-unchanged
returns-in-Err-clause-unchanged g c =
    let held = came_and_went c.args.tables.now.index.held c.add_all.new.index.held c.discard_all.new.index.held c.args.after.now c.requires.new c.in_ok-add_all.ensures.gained c.discard_all.ensures.dropped in
    let index = same_index c.discard_all.new.index c.args.tables.now.index held (c.discard_all.ensures.cells ∙ c.add_all.ensures.cells) in
    λ i. record { alloc = c.args.tables.now.alloc; vertices = c.in-Err.ensures.err i; borders = c.args.tables.now.borders; index = index i }

pub discard_all-requires-2-clause-held : goal.discard_all-requires-2-clause-held
discard_all-requires-2-clause-held g c =
    still_held c.args.tables.now.index.held c.add_all.new.index.held c.args.after.now c.args.before.now c.in_ok-add_all.ensures.gained c.requires.held

pub returns-clause-exchanged : goal.returns-clause-exchanged
returns-clause-exchanged g c =
    exchanged c.args.tables.now.index.held c.add_all.new.index.held c.discard_all-2.new.index.held c.args.after.now c.args.before.now c.in_ok-add_all.ensures.gained c.discard_all-2.ensures.dropped
