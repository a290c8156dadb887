use Rattle.kit_words.proofs.Common.{◌≡◌, ap, sym, ◌∙◌, refl, None, is_some}
use Rattle.slab.specs.Slab.{get}
use Rattle.arc_tables.specs.Common.{uses_in, store, store_of, SameRings}
use Rattle.arc_tables.proofs.Moves.{keeps_after_all}
use Rattle.arc_tables.proofs.WholeLemmas.{whole_alike, empty_ring, one_fewer, laid_grows}
use Rattle.arc_tables.proofs.tables.Tables.add_ring.Goals as goal

pub lay-requires-clause-whole : goal.lay-requires-clause-whole
lay-requires-clause-whole g c =
    whole_alike c.args.self.now (record c.args.self.now { rings = c.insert_reserved-r.new.self }) (λ j. refl)
    (empty_ring c.args.self.now.rings c.insert_reserved-r.new.self c.insert_reserved-r.result _ (ap (λ s. get s c.insert_reserved-r.result) (sym c.reserve.ensures.rest_kept) ∙ c.insert_reserved-r.ensures.was_vacant) c.insert_reserved-r.ensures.updates.changed c.new.ensures.items (λ k f. c.insert_reserved-r.ensures.updates.others k f ∙ ap (λ s. get s k) c.reserve.ensures.rest_kept))
    (λ j m x. x) c.requires.whole

pub returns-in-Ok-clause-ok : goal.returns-in-Ok-clause-ok
returns-in-Ok-clause-ok g c =
    let r = c.insert_reserved-r.result in
    let old = c.args.self.now.rings in
    let new = c.insert_reserved-r.new.self in
    let vacant : get old r ≡ None = ap (λ s. get s r) (sym c.reserve.ensures.rest_kept) ∙ c.insert_reserved-r.ensures.was_vacant in
    let same : SameRings old new = empty_ring old new r _ vacant c.insert_reserved-r.ensures.updates.changed c.new.ensures.items (λ k f. c.insert_reserved-r.ensures.updates.others k f ∙ ap (λ s. get s k) c.reserve.ensures.rest_kept) in
    laid_grows c.args.self.now c.lay.new.self new r _ same c.in-Ok.ensures.ok

pub returns-in-Ok-clause-held : goal.returns-in-Ok-clause-held
returns-in-Ok-clause-held g c = record {
  here = c.lay.ensures.held c.insert_reserved-r.result ∙ ap is_some c.insert_reserved-r.ensures.updates.changed;
  others = λ k f. c.lay.ensures.held k ∙ ap is_some (c.insert_reserved-r.ensures.updates.others k f ∙ ap (λ s. get s k) c.reserve.ensures.rest_kept);
}

pub returns-in-Err-clause-err : goal.returns-in-Err-clause-err
returns-in-Err-clause-err g c =
    let r = c.insert_reserved-r.result in
    let old = c.args.self.now.rings in
    let new = c.insert_reserved-r.new.self in
    let vacant : get old r ≡ None = ap (λ s. get s r) (sym c.reserve.ensures.rest_kept) ∙ c.insert_reserved-r.ensures.was_vacant in
    let same : SameRings old new = empty_ring old new r _ vacant c.insert_reserved-r.ensures.updates.changed c.new.ensures.items (λ k f. c.insert_reserved-r.ensures.updates.others k f ∙ ap (λ s. get s k) c.reserve.ensures.rest_kept) in
    keeps_after_all r (store c.args.self.now) (store_of c.args.self.now.arcs new) (store c.lay.new.self) (store c.take_out.new.self) (λ j. refl) same (ap uses_in vacant) c.in-Err.ensures.err c.take_out.ensures.gone

pub returns-in-Err-clause-err_held : goal.returns-in-Err-clause-err_held
returns-in-Err-clause-err_held g c =
    let r = c.insert_reserved-r.result in
    let old = c.args.self.now.rings in
    one_fewer old c.insert_reserved-r.new.self c.lay.new.self.rings c.take_out.new.self.rings r (ap (λ s. get s r) (sym c.reserve.ensures.rest_kept) ∙ c.insert_reserved-r.ensures.was_vacant) (λ k f. c.insert_reserved-r.ensures.updates.others k f ∙ ap (λ s. get s k) c.reserve.ensures.rest_kept) c.lay.ensures.held c.take_out.ensures.ring c.take_out.ensures.others
