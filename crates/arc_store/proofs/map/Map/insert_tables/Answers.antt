use Rattle.kit_words.proofs.Common.{sym, subst, ap, ◌∙◌, arith, err_from_is_err_and}
use Rattle.ring_machine.specs.Common.{is_segment, ins}
use Rattle.feature_exchange.specs.Common.{stored, stored_document}
use Rattle.arc_store.specs.Common.{IsPlaceable, State}
use Rattle.arc_store.proofs.Around.{none_joined}
use Rattle.arc_store.proofs.InsertPlan.{first_key, second_key, insert_off, insert_new, insert_single}
use Rattle.arc_store.proofs.InsertPlan.{doc_inserted, size_grows, kept_inserted}
use Rattle.arc_store.proofs.StateKept.{with_document, same_tables}
use Rattle.arc_store.proofs.map.Map.insert_tables.Goals as goal

pub read_parting-requires-clause-first : goal.read_parting-requires-clause-first
read_parting-requires-clause-first g c = first_key c.self.invariant c.self.view_is c.args.a c.args.b c.args.q c.requires.placeable.border c.requires.placeable.free

pub read_parting-requires-clause-second : goal.read_parting-requires-clause-second
read_parting-requires-clause-second g c = second_key c.self.invariant c.self.view_is c.args.a c.args.b c.args.q c.requires.placeable.border c.requires.placeable.free

pub read_parting-requires-clause-apart : goal.read_parting-requires-clause-apart
read_parting-requires-clause-apart g c = insert_off c.self.invariant c.self.view_is c.args.a c.args.b c.args.q c.requires.placeable.border c.requires.placeable.free

pub put_in-requires-clause-unjoined : goal.put_in-requires-clause-unjoined
put_in-requires-clause-unjoined g c = λ k x e.
    let m = c.self.inside in
    none_joined (stored m.frame m.rings.borders m.rings.vertices) c.self.invariant.holds.whole k e x

pub put_in-requires-clause-held : goal.put_in-requires-clause-held
put_in-requires-clause-held g c =
    let m = c.self.inside in
    c.self.invariant.holds.indexed c.in_ok-parting.parting.before
    ∙ ap (is_segment (stored_document (stored m.frame m.rings.borders m.rings.vertices))) c.in_ok-parting.ensures.read.goes
    ∙ rw (← c.self.view_is) at c.requires.placeable.border

pub put_in-requires-clause-new : goal.put_in-requires-clause-new
put_in-requires-clause-new g c = insert_new c.self.invariant c.self.view_is c.args.a c.args.b c.args.q c.requires.placeable.border c.requires.placeable.free (c.as_slice-after.ensures.value ∙ c.in_ok-parting.ensures.read.comes)

pub put_in-requires-clause-single : goal.put_in-requires-clause-single
put_in-requires-clause-single g c = insert_single c.self.invariant c.self.view_is c.args.a c.args.b c.args.q c.requires.placeable.border c.requires.placeable.free (c.as_slice-after.ensures.value ∙ c.in_ok-parting.ensures.read.comes)

pub overflow_add-self : goal.overflow_add-self
overflow_add-self g c =
    let may = subst (λ (z : State). IsPlaceable z.doc c.args.a c.args.b c.args.q) (sym c.self.view_is) c.requires.placeable in
    omega (
      arith,
      may.small,
      size_grows c.self.invariant c.in_ok-parting.ensures.read may c.in_ok-rings.ensures.put c.in_ok-rings.ensures.rings,
    )

pub invariant_of-self-2 : goal.invariant_of-self-2
invariant_of-self-2 g c =
    let may = subst (λ (z : State). IsPlaceable z.doc c.args.a c.args.b c.args.q) (sym c.self.view_is) c.requires.placeable in
    kept_inserted c.self.invariant c.in_ok-parting.ensures.read may c.in_ok-rings.ensures.put c.in_ok-rings.ensures.rings c.put_in.new.tables.index.held c.as_slice-after.ensures.value c.in_ok-rings.ensures.exchanged

pub returns-clause-inserted : goal.returns-clause-inserted
returns-clause-inserted g c =
    let may = subst (λ (z : State). IsPlaceable z.doc c.args.a c.args.b c.args.q) (sym c.self.view_is) c.requires.placeable in
    with_document c.self.invariant c.self.view_is c.put_in.new.tables.borders c.put_in.new.tables.vertices c.put_in.new.tables.index.cells
    (doc_inserted c.self.invariant c.in_ok-parting.ensures.read may c.in_ok-rings.ensures.put ∙ ap (λ z. ins z.doc c.args.a c.args.b c.args.q) c.self.view_is)
    c.put_in.ensures.cells

pub returns-in_err-rings-clause-unchanged : goal.returns-in_err-rings-clause-unchanged
returns-in_err-rings-clause-unchanged g c =
    let e = err_from_is_err_and c.from_residual-in_err-rings.result c.from_residual-in_err-rings.ensures.1 in
    rw e.1
    (same_tables c.self.invariant c.self.view_is c.put_in.new.tables.borders c.put_in.new.tables.vertices c.put_in.new.tables.index.cells (ap (λ t. t.borders) c.in_err-rings.ensures.unchanged) (ap (λ t. t.vertices) c.in_err-rings.ensures.unchanged) c.put_in.ensures.cells)
