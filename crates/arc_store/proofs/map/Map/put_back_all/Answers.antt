use Rattle.kit_words.proofs.Common.{ap, arith, err_from_is_err_and}
use Rattle.feature_exchange.specs.Common.{stored}
use Rattle.arc_store.proofs.Around.{none_joined}
use Rattle.arc_store.proofs.StateKept.{with_document, same_tables}
use Rattle.arc_store.proofs.ThinnedBack.{all_placeable, all_new, all_come_once, all_there, all_go_once}
use Rattle.arc_store.proofs.ThinnedBack.{few_gained, small_again, size_again, document_now, kept_again}
use Rattle.arc_store.proofs.map.Map.put_back_all.Goals as goal

pub put_all-requires-clause-unjoined : goal.put_all-requires-clause-unjoined
put_all-requires-clause-unjoined g c = λ k x e.
    let m = c.self.inside in
    none_joined (stored m.frame m.rings.borders m.rings.vertices) c.self.invariant.holds.whole k e x

pub put_all-requires-clause-placeable : goal.put_all-requires-clause-placeable
put_all-requires-clause-placeable g c = all_placeable c.self.invariant c.self.view_is c.args.removals.now c.requires.fits

pub put_all-requires-clause-few : goal.put_all-requires-clause-few
put_all-requires-clause-few g c = few_gained c.self.invariant c.self.view_is c.args.removals.now c.requires.fits

pub put_all-requires-clause-new : goal.put_all-requires-clause-new
put_all-requires-clause-new g c = all_new c.self.invariant c.self.view_is c.args.removals.now c.requires.fits

pub put_all-requires-clause-comings_once : goal.put_all-requires-clause-comings_once
put_all-requires-clause-comings_once g c = all_come_once c.self.invariant c.self.view_is c.args.removals.now c.requires.fits

pub put_all-requires-clause-held : goal.put_all-requires-clause-held
put_all-requires-clause-held g c = all_there c.self.invariant c.self.view_is c.args.removals.now c.requires.fits

pub put_all-requires-clause-goings_once : goal.put_all-requires-clause-goings_once
put_all-requires-clause-goings_once g c = all_go_once c.self.invariant c.self.view_is c.args.removals.now c.requires.fits

pub returns-in_err-count-clause-unchanged : goal.returns-in_err-count-clause-unchanged
returns-in_err-count-clause-unchanged g c =
    let e = err_from_is_err_and c.from_residual.result c.from_residual.ensures.1 in
    rw e.1
    (same_tables c.self.invariant c.self.view_is c.put_all.new.tables.borders c.put_all.new.tables.vertices c.put_all.new.tables.index.cells (ap (λ t. t.borders) c.in_err-count.ensures.unchanged) (ap (λ t. t.vertices) c.in_err-count.ensures.unchanged) c.put_all.ensures.cells)

pub overflow_add-self : goal.overflow_add-self
overflow_add-self g c = omega (
  arith,
  small_again c.self.invariant c.self.view_is c.args.removals.now c.requires.fits,
  size_again c.self.invariant c.self.view_is c.args.removals.now c.requires.fits c.in_ok-count.ensures.put,
)

pub invariant_of-self-2 : goal.invariant_of-self-2
invariant_of-self-2 g c = kept_again c.self.invariant c.self.view_is c.args.removals.now c.requires.fits c.in_ok-count.ensures.put c.put_all.new.tables.index.held c.in_ok-count.ensures.exchanged

pub returns-clause-put : goal.returns-clause-put
returns-clause-put g c =
    with_document c.self.invariant c.self.view_is c.put_all.new.tables.borders c.put_all.new.tables.vertices c.put_all.new.tables.index.cells
    (document_now c.self.invariant c.self.view_is c.args.removals.now c.requires.fits c.in_ok-count.ensures.put)
    c.put_all.ensures.cells
