use Rattle.kit_words.proofs.Common.{◌++◌, ◌∙◌, sym, ap, subst, length, flat_map, length-map}
use Rattle.ring_machine.specs.Common.{feature_at}
use Rattle.ring_parts.specs.Common.{polygons_seen}
use Rattle.feature_exchange.specs.Common.{numbers_of, AreThere, seen, all_had, stored, ring_under, stored_document}
use Rattle.feature_exchange.specs.Common.{rings_under}
use Rattle.ring_store.specs.Common.{keyed_ring}
use Rattle.feature_exchange.proofs.Series.{there_still, back_again}
use Rattle.map_frame.specs.Common.{Framed}
use Rattle.feature_exchange.proofs.Asked.{for_length, had_seen}
use Rattle.feature_exchange.proofs.ExchangedWhole.{grows_frame, whole_rings, whole_ready, whole_document, whole_holds}
use Rattle.feature_exchange.proofs.Gathering.{going_there, going_different}
use Rattle.feature_exchange.proofs.LaidBeside.{laid_added, laid_there}
use Rattle.feature_exchange.proofs.Whole.{tables_stand, map_unchanged}
use Rattle.feature_exchange.proofs.exchanging.exchange_features.Goals as goal

pub gather_rings-requires-clause-there : goal.gather_rings-requires-clause-there
gather_rings-requires-clause-there g c =
    going_there (stored c.args.frame.now c.args.tables.now.borders c.args.tables.now.vertices) c.args.tables.now.index.held c.requires.holds c.args.changes.now c.as_slice.result.now
    (c.as_slice.ensures.value ∙ c.in_ok-push_features.ensures ∙ ap (λ z. z ++ flat_map (λ k. rings_under c.args.frame.now.doc k.number) c.args.changes.now) c.new-numbers.ensures.items)

pub gather_rings-requires-clause-different : goal.gather_rings-requires-clause-different
gather_rings-requires-clause-different g c =
    going_different (stored c.args.frame.now c.args.tables.now.borders c.args.tables.now.vertices) c.args.tables.now.index.held c.requires.holds c.args.changes.now c.requires.apart c.as_slice.result.now
    (c.as_slice.ensures.value ∙ c.in_ok-push_features.ensures ∙ ap (λ z. z ++ flat_map (λ k. rings_under c.args.frame.now.doc k.number) c.args.changes.now) c.new-numbers.ensures.items)

pub lay_ready-requires-clause-grows : goal.lay_ready-requires-clause-grows
lay_ready-requires-clause-grows g c =
    grows_frame (stored c.args.frame.now c.args.tables.now.borders c.args.tables.now.vertices) c.args.frame.now.next c.args.after c.requires.grows

pub lay_ready-requires-clause-stand : goal.lay_ready-requires-clause-stand
lay_ready-requires-clause-stand g c =
    tables_stand (stored c.args.frame.now c.args.tables.now.borders c.args.tables.now.vertices) c.args.tables.now.index.held c.requires.holds

pub lay_ready-requires-clause-rings : goal.lay_ready-requires-clause-rings
lay_ready-requires-clause-rings g c =
    whole_rings c.args.frame.now c.args.tables.now.borders c.args.tables.now.vertices c.next.ensures.placed c.args.after c.requires.grows c.args.changes.now c.requires.below c.requires.apart c.requires.map

pub exchange_each-requires-clause-ready : goal.exchange_each-requires-clause-ready
exchange_each-requires-clause-ready g c =
    whole_ready c.args.frame.now c.args.tables.now.borders c.args.tables.now.vertices c.next.ensures.placed c.args.after c.requires.grows c.args.changes.now c.requires.below c.requires.apart c.requires.map
    c.lay_ready.new.tables.borders c.lay_ready.new.tables.vertices c.args.tables.now.index.held c.lay_ready.new.tables.index.held c.requires.holds c.lay_ready.new.frame c.next-in-Ok.ensures.placed c.in-Ok.ensures.ok c.in-Ok.came.items c.lay_ready.new.laid.items c.lay_ready.ensures.stand c.lay_ready.ensures.laid c.in-Ok.ensures.numbers c.in-Ok.ensures.at c.in-Ok.ensures.room

pub exchange_each-requires-clause-polygons : goal.exchange_each-requires-clause-polygons
exchange_each-requires-clause-polygons g c =
    sym (length-map c.in_ok-read.read.items (λ p. polygons_seen p.items)) ∙ ap length c.in_ok-read.ensures
    ∙ length-map c.args.changes.now (λ k. (feature_at (stored_document (stored c.args.frame.now c.args.tables.now.borders c.args.tables.now.vertices)) k.number).polygons)

pub exchange_each-requires-clause-numbers : goal.exchange_each-requires-clause-numbers
exchange_each-requires-clause-numbers g c =
    for_length (keyed_ring c.lay_ready.new.tables.vertices c.lay_ready.new.tables.borders) c.args.changes.now c.in-Ok.came.items c.in-Ok.ensures.at

pub take_out_rings-requires-clause-there : goal.take_out_rings-requires-clause-there
take_out_rings-requires-clause-there g c =
    subst (AreThere c.lay_ready.new.tables.borders) (sym c.as_slice-in-Ok.ensures.value)
    (there_still c.args.tables.now.borders c.lay_ready.new.tables.borders c.in_ok-gone.gone.items c.in_ok-gone.ensures.there
    (laid_added c.args.tables.now.vertices c.args.tables.now.borders c.lay_ready.new.tables.vertices c.lay_ready.new.tables.borders c.lay_ready.new.laid.items c.lay_ready.ensures.laid).kept)

pub take_out_rings-requires-in-Err-clause-there : goal.take_out_rings-requires-in-Err-clause-there
take_out_rings-requires-in-Err-clause-there g c =
    subst (AreThere c.lay_ready.new.tables.borders) (sym c.as_slice-in-Err.ensures.value)
    (laid_there c.args.tables.now.vertices c.args.tables.now.borders c.lay_ready.new.tables.vertices c.lay_ready.new.tables.borders c.lay_ready.new.laid.items c.lay_ready.ensures.laid)

pub returns-in-Ok-clause-exchanged : goal.returns-in-Ok-clause-exchanged
returns-in-Ok-clause-exchanged g c =
    whole_document c.args.frame.now c.args.tables.now.borders c.args.tables.now.vertices c.next.ensures.placed c.args.after c.requires.grows c.args.changes.now c.requires.below c.requires.apart c.requires.map
    c.lay_ready.new.tables.borders c.lay_ready.new.tables.vertices c.args.tables.now.index.held c.lay_ready.new.tables.index.held c.requires.holds c.lay_ready.new.frame c.next-in-Ok.ensures.placed c.in-Ok.ensures.ok c.in-Ok.came.items c.lay_ready.new.laid.items c.lay_ready.ensures.stand c.lay_ready.ensures.laid c.in-Ok.ensures.numbers c.in-Ok.ensures.at c.in-Ok.ensures.room
    c.exchange_each.new.frame c.take_out_rings.new.tables.borders c.take_out_rings.new.tables.vertices c.take_out_rings.new.tables.index.held (numbers_of c.as_slice-in-Ok.result.now) c.exchange_each.ensures.exchanged c.take_out_rings.ensures.stand c.take_out_rings.ensures.gone c.take_out_rings.ensures.places
    (ap numbers_of c.as_slice-in-Ok.ensures.value ∙ c.in_ok-gone.ensures.numbers ∙ (c.as_slice.ensures.value ∙ c.in_ok-push_features.ensures ∙ ap (λ z. z ++ flat_map (λ k. rings_under c.args.frame.now.doc k.number) c.args.changes.now) c.new-numbers.ensures.items))
    c.requires.texts

pub returns-in-Ok-clause-had : goal.returns-in-Ok-clause-had
returns-in-Ok-clause-had g c =
    ap seen (c.exchange_each.ensures.had ∙ ap (λ (f : Framed). all_had f.doc c.args.changes.now c.in_ok-read.read.items) c.in-Ok.ensures.ok)
    ∙ had_seen (ring_under (stored c.args.frame.now c.args.tables.now.borders c.args.tables.now.vertices)) c.args.frame.now.doc c.args.changes.now c.in_ok-read.read.items c.in_ok-read.ensures

pub returns-in-Ok-clause-holds : goal.returns-in-Ok-clause-holds
returns-in-Ok-clause-holds g c =
    whole_holds c.args.frame.now c.args.tables.now.borders c.args.tables.now.vertices c.next.ensures.placed c.args.after c.requires.grows c.args.changes.now c.requires.below c.requires.apart c.requires.map
    c.lay_ready.new.tables.borders c.lay_ready.new.tables.vertices c.args.tables.now.index.held c.lay_ready.new.tables.index.held c.requires.holds c.lay_ready.new.frame c.next-in-Ok.ensures.placed c.in-Ok.ensures.ok c.in-Ok.came.items c.lay_ready.new.laid.items c.lay_ready.ensures.stand c.lay_ready.ensures.laid c.in-Ok.ensures.numbers c.in-Ok.ensures.at c.in-Ok.ensures.room
    c.exchange_each.new.frame c.take_out_rings.new.tables.borders c.take_out_rings.new.tables.vertices c.take_out_rings.new.tables.index.held (numbers_of c.as_slice-in-Ok.result.now) c.exchange_each.ensures.exchanged c.take_out_rings.ensures.stand c.take_out_rings.ensures.gone c.take_out_rings.ensures.places
    (ap numbers_of c.as_slice-in-Ok.ensures.value ∙ c.in_ok-gone.ensures.numbers ∙ (c.as_slice.ensures.value ∙ c.in_ok-push_features.ensures ∙ ap (λ z. z ++ flat_map (λ k. rings_under c.args.frame.now.doc k.number) c.args.changes.now) c.new-numbers.ensures.items))
    c.requires.texts

pub returns-in-Err-clause-unchanged : goal.returns-in-Err-clause-unchanged
returns-in-Err-clause-unchanged g c =
    let back = back_again c.args.tables.now.vertices c.lay_ready.new.tables.vertices c.take_out_rings-in-Err.new.tables.vertices c.args.tables.now.borders c.lay_ready.new.tables.borders c.take_out_rings-in-Err.new.tables.borders
    c.args.tables.now.index.held c.take_out_rings-in-Err.new.tables.index.held (numbers_of c.lay_ready.new.laid.items) (numbers_of c.as_slice-in-Err.result.now)
    (tables_stand (stored c.args.frame.now c.args.tables.now.borders c.args.tables.now.vertices) c.args.tables.now.index.held c.requires.holds) c.take_out_rings-in-Err.ensures.stand (laid_added c.args.tables.now.vertices c.args.tables.now.borders c.lay_ready.new.tables.vertices c.lay_ready.new.tables.borders c.lay_ready.new.laid.items c.lay_ready.ensures.laid)
    (ap numbers_of c.as_slice-in-Err.ensures.value) c.take_out_rings-in-Err.ensures.gone c.lay_ready.ensures.laid.kept c.take_out_rings-in-Err.ensures.places in
    (map_unchanged (stored c.args.frame.now c.args.tables.now.borders c.args.tables.now.vertices) (stored c.lay_ready.new.frame c.take_out_rings-in-Err.new.tables.borders c.take_out_rings-in-Err.new.tables.vertices) c.args.tables.now.index.held c.take_out_rings-in-Err.new.tables.index.held c.requires.holds (ap (λ (f : Framed). f.doc) c.in-Err.ensures.err) back.0 back.1 back.2).0

pub returns-in-Err-clause-holds : goal.returns-in-Err-clause-holds
returns-in-Err-clause-holds g c =
    let back = back_again c.args.tables.now.vertices c.lay_ready.new.tables.vertices c.take_out_rings-in-Err.new.tables.vertices c.args.tables.now.borders c.lay_ready.new.tables.borders c.take_out_rings-in-Err.new.tables.borders
    c.args.tables.now.index.held c.take_out_rings-in-Err.new.tables.index.held (numbers_of c.lay_ready.new.laid.items) (numbers_of c.as_slice-in-Err.result.now)
    (tables_stand (stored c.args.frame.now c.args.tables.now.borders c.args.tables.now.vertices) c.args.tables.now.index.held c.requires.holds) c.take_out_rings-in-Err.ensures.stand (laid_added c.args.tables.now.vertices c.args.tables.now.borders c.lay_ready.new.tables.vertices c.lay_ready.new.tables.borders c.lay_ready.new.laid.items c.lay_ready.ensures.laid)
    (ap numbers_of c.as_slice-in-Err.ensures.value) c.take_out_rings-in-Err.ensures.gone c.lay_ready.ensures.laid.kept c.take_out_rings-in-Err.ensures.places in
    (map_unchanged (stored c.args.frame.now c.args.tables.now.borders c.args.tables.now.vertices) (stored c.lay_ready.new.frame c.take_out_rings-in-Err.new.tables.borders c.take_out_rings-in-Err.new.tables.vertices) c.args.tables.now.index.held c.take_out_rings-in-Err.new.tables.index.held c.requires.holds (ap (λ (f : Framed). f.doc) c.in-Err.ensures.err) back.0 back.1 back.2).1
