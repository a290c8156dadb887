use Rattle.kit_words.proofs.Common.{◌∙◌, sym, ap, subst}
use Rattle.std.specs.FinMap as table
use Rattle.feature_exchange.specs.Common.{AreThere, numbers_of}
use Rattle.ring_store.proofs.CountLemmas.{same_index}
use Rattle.feature_exchange.proofs.Series.{rings_at, back_again}
use Rattle.feature_exchange.proofs.ring_laying.lay_rings.Goals as goal

pub returns-in-Ok-clause-at : goal.returns-in-Ok-clause-at
returns-in-Ok-clause-at g c =
    rings_at c.lay_each.new.vertices c.lay_each.new.borders c.lay_each.new.laid.items c.lay_each.ensures.there ∙ c.in-Ok.ensures.at

pub take_out_each-requires-clause-there : goal.take_out_each-requires-clause-there
take_out_each-requires-clause-there g c =
    subst (AreThere c.lay_each.new.borders) (sym c.as_slice.ensures.value) c.lay_each.ensures.there

pub returns-in-Err-clause-unchanged : goal.returns-in-Err-clause-unchanged
returns-in-Err-clause-unchanged g c =
    let back = back_again c.args.tables.now.vertices c.lay_each.new.vertices c.take_out_each.new.vertices c.args.tables.now.borders c.lay_each.new.borders c.take_out_each.new.borders
    c.args.tables.now.index.held c.take_out_each.new.index.held (numbers_of c.lay_each.new.laid.items) (numbers_of c.as_slice.result.now)
    c.requires.stand c.take_out_each.ensures.stands c.lay_each.ensures.added (ap numbers_of c.as_slice.ensures.value) c.take_out_each.ensures.gone
    c.lay_each.ensures.kept c.take_out_each.ensures.places in
    let index = same_index c.take_out_each.new.index c.args.tables.now.index back.2 (c.take_out_each.ensures.cells ∙ c.lay_each.ensures.cells) in
    λ i. record { alloc = c.args.tables.now.alloc; vertices = back.1 i; borders = back.0 i; index = index i }

pub returns-in-Err-clause-kept : goal.returns-in-Err-clause-kept
returns-in-Err-clause-kept g c = λ k p e.
    ap (λ z. table.get z k)
    (back_again c.args.tables.now.vertices c.lay_each.new.vertices c.take_out_each.new.vertices c.args.tables.now.borders c.lay_each.new.borders c.take_out_each.new.borders
    c.args.tables.now.index.held c.take_out_each.new.index.held (numbers_of c.lay_each.new.laid.items) (numbers_of c.as_slice.result.now)
    c.requires.stand c.take_out_each.ensures.stands c.lay_each.ensures.added (ap numbers_of c.as_slice.ensures.value) c.take_out_each.ensures.gone
    c.lay_each.ensures.kept c.take_out_each.ensures.places).1
    ∙ e
