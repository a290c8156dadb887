use Rattle.kit_words.proofs.Common.{◌∙◌}
use Rattle.ring_store.proofs.CountLemmas.{same_index}
use Rattle.ring_store.proofs.Planned.{came_and_went}
use Rattle.ring_store.proofs.TableLemmas.{one_went}
use Rattle.ring_store.proofs.changes.put_in.Goals as goal

pub returns-in-Ok-clause-exchanged : goal.returns-in-Ok-clause-exchanged
returns-in-Ok-clause-exchanged g c =
    one_went c.args.tables.now.index.held c.add_all.new.index.held c.discard.new.self.held c.args.after.now c.args.before c.in_ok-add_all.ensures.gained c.discard.ensures.removed

pub returns-in-Err-clause-unchanged : goal.returns-in-Err-clause-unchanged
returns-in-Err-clause-unchanged g c =
    let held = came_and_went c.args.tables.now.index.held c.add_all.new.index.held c.discard_all.new.index.held c.args.after.now c.requires.new c.in_ok-add_all.ensures.gained c.discard_all.ensures.dropped in
    let index = same_index c.discard_all.new.index c.args.tables.now.index held (c.discard_all.ensures.cells ∙ c.add_all.ensures.cells) in
    λ i. record { alloc = c.args.tables.now.alloc; vertices = c.in-Err.ensures.vertices i; borders = c.in-Err.ensures.borders i; index = index i }
