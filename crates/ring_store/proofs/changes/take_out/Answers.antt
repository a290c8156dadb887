use Rattle.kit_words.proofs.Common.{◌∙◌}
use Rattle.segment_index.proofs.Common.{contains_inserted}
use Rattle.ring_store.proofs.CountLemmas.{same_index}
use Rattle.ring_store.proofs.TableLemmas.{still_among, one_came, one_back}
use Rattle.ring_store.proofs.changes.take_out.Goals as goal

pub discard_all-requires-clause-held : goal.discard_all-requires-clause-held
discard_all-requires-clause-held g c =
    still_among c.args.tables.now.index.held c.add.new.self.held c.args.after c.args.before.now c.in_ok-add.ensures.added c.requires.held

pub discard-requires : goal.discard-requires
discard-requires g c =
    contains_inserted c.add.new.self.held c.args.tables.now.index.held c.args.after c.in_ok-add.ensures.added

pub returns-in-Ok-clause-exchanged : goal.returns-in-Ok-clause-exchanged
returns-in-Ok-clause-exchanged g c =
    one_came c.args.tables.now.index.held c.add.new.self.held c.discard_all.new.index.held c.args.after c.args.before.now c.in_ok-add.ensures.added c.discard_all.ensures.dropped

pub returns-in-Err-clause-unchanged : goal.returns-in-Err-clause-unchanged
returns-in-Err-clause-unchanged g c =
    let held = one_back c.args.tables.now.index.held c.add.new.self.held c.discard.new.self.held c.args.after c.requires.new c.in_ok-add.ensures.added c.discard.ensures.removed in
    let index = same_index c.discard.new.self c.args.tables.now.index held (c.discard.ensures.cells ∙ c.in_ok-add.ensures.cells) in
    λ i. record { alloc = c.args.tables.now.alloc; vertices = c.args.tables.now.vertices; borders = c.in-Err.ensures.err i; index = index i }
