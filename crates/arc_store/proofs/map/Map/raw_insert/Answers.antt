use Rattle.kit_words.proofs.Common.{◌≡◌, refl, subst, ap, ◌∙◌, None, arith}
use Rattle.ring_machine.specs.Common.{first_of, insert_refusals, ins}
use Rattle.feature_exchange.specs.Common.{stored, stored_document}
use Rattle.arc_store.specs.Common.{Refuses, State}
use Rattle.arc_store.proofs.Around.{none_joined}
use Rattle.arc_store.proofs.Indexed.{indexed_apart}
use Rattle.arc_store.proofs.InsertPlan.{first_key, second_key, insert_off, insert_new, insert_single, insertable}
use Rattle.arc_store.proofs.InsertPlan.{insert_passes, doc_inserted, size_grows, kept_inserted}
use Rattle.arc_store.proofs.Outcomes.{is_made, hands_on}
use Rattle.arc_store.proofs.StateKept.{tested, with_record}
use Rattle.arc_store.proofs.Tested.{inserted_few}
use Rattle.arc_store.proofs.map.Map.raw_insert.Goals as goal

pub read_parting-requires-clause-first : goal.read_parting-requires-clause-first
read_parting-requires-clause-first g c = first_key c.self.invariant c.self.view_is c.args.a c.args.b c.args.q c.requires.segment c.requires.free

pub read_parting-requires-clause-second : goal.read_parting-requires-clause-second
read_parting-requires-clause-second g c = second_key c.self.invariant c.self.view_is c.args.a c.args.b c.args.q c.requires.segment c.requires.free

pub read_parting-requires-clause-apart : goal.read_parting-requires-clause-apart
read_parting-requires-clause-apart g c = insert_off c.self.invariant c.self.view_is c.args.a c.args.b c.args.q c.requires.segment c.requires.free

pub test_insert-requires-clause-apart : goal.test_insert-requires-clause-apart
test_insert-requires-clause-apart g c =
    let m = c.self.inside in
    indexed_apart (stored_document (stored m.frame m.rings.borders m.rings.vertices)) m.rings.index.held c.self.invariant.holds.indexed c.self.invariant.holds.proper

pub put_in-requires-clause-unjoined : goal.put_in-requires-clause-unjoined
put_in-requires-clause-unjoined g c = λ k x e.
    let m = c.self.inside in
    none_joined (stored m.frame m.rings.borders m.rings.vertices) c.self.invariant.holds.whole k e x

pub put_in-requires-clause-new : goal.put_in-requires-clause-new
put_in-requires-clause-new g c = insert_new c.self.invariant c.self.view_is c.args.a c.args.b c.args.q c.requires.segment c.requires.free (c.as_slice-after.ensures.value ∙ c.in_ok-parting.ensures.read.comes)

pub put_in-requires-clause-single : goal.put_in-requires-clause-single
put_in-requires-clause-single g c = insert_single c.self.invariant c.self.view_is c.args.a c.args.b c.args.q c.requires.segment c.requires.free (c.as_slice-after.ensures.value ∙ c.in_ok-parting.ensures.read.comes)

pub overflow_add-self : goal.overflow_add-self
overflow_add-self g c =
    let may = insert_passes c.self.invariant c.self.view_is c.args.a c.args.b c.args.q c.requires.segment c.requires.free c.requires.small c.requires.apart c.in_ok-test_insert.ensures.accepted in
    omega (
      arith,
      may.small,
      size_grows c.self.invariant c.in_ok-parting.ensures.read may c.in_ok-rings.ensures.put c.in_ok-rings.ensures.rings,
    )

pub invariant_of-self-2 : goal.invariant_of-self-2
invariant_of-self-2 g c =
    let may = insert_passes c.self.invariant c.self.view_is c.args.a c.args.b c.args.q c.requires.segment c.requires.free c.requires.small c.requires.apart c.in_ok-test_insert.ensures.accepted in
    kept_inserted c.self.invariant c.in_ok-parting.ensures.read may c.in_ok-rings.ensures.put c.in_ok-rings.ensures.rings c.put_in.new.tables.index.held c.as_slice-after.ensures.value c.in_ok-rings.ensures.exchanged

-- ---- what the edit makes

pub returns-in_err-test_insert-clause-edits : goal.returns-in_err-test_insert-clause-edits
returns-in_err-test_insert-clause-edits g c =
    let m = c.self.inside in
    let asked = insertable c.self.invariant c.self.view_is c.args.a c.args.b c.args.q c.requires.segment c.requires.free c.requires.small in
    hands_on c.in_err-test_insert.field-0.0 c.from_residual-in_err-test_insert.result c.from_residual-in_err-test_insert.ensures.1
    (subst (λ (z : State). Refuses c.in_err-test_insert.field-0.0 (first_of (insert_refusals z.doc c.args.a c.args.b c.args.q))) c.self.view_is (c.in_err-test_insert.ensures.refused (stored_document (stored m.frame m.rings.borders m.rings.vertices)) asked))
    (tested c.self.invariant c.self.view_is m.rings.borders m.rings.vertices m.rings.index.cells c.test_insert.new.tests refl refl refl)

pub returns-clause-edits : goal.returns-clause-edits
returns-clause-edits g c =
    let m = c.self.inside in
    let asked = insertable c.self.invariant c.self.view_is c.args.a c.args.b c.args.q c.requires.segment c.requires.free c.requires.small in
    let none = c.in_ok-test_insert.ensures.accepted (stored_document (stored m.frame m.rings.borders m.rings.vertices)) asked in
    let may = insert_passes c.self.invariant c.self.view_is c.args.a c.args.b c.args.q c.requires.segment c.requires.free c.requires.small c.requires.apart c.in_ok-test_insert.ensures.accepted in
    is_made (subst (λ (z : State). first_of (insert_refusals z.doc c.args.a c.args.b c.args.q) ≡ None) c.self.view_is none)
    (with_record c.self.invariant c.self.view_is c.put_in.new.tables.borders c.put_in.new.tables.vertices c.put_in.new.tables.index.cells
    (doc_inserted c.self.invariant c.in_ok-parting.ensures.read may c.in_ok-rings.ensures.put ∙ ap (λ z. ins z.doc c.args.a c.args.b c.args.q) c.self.view_is)
    c.put_in.ensures.cells c.keep.ensures)

-- ---- the tests

pub returns-in_err-test_insert-clause-few : goal.returns-in_err-test_insert-clause-few
returns-in_err-test_insert-clause-few g c =
    let r = c.in_ok-parting.ensures.read in
    inserted_few c.self.invariant c.self.view_is c.args.a c.args.b c.args.q c.requires.segment c.requires.free c.requires.small c.in_ok-parting.parting.before c.as_slice-after.result.now r.goes (c.as_slice-after.ensures.value ∙ r.comes) c.test_insert.new.tests c.test_insert.ensures.few

pub returns-in_err-rings-clause-few : goal.returns-in_err-rings-clause-few
returns-in_err-rings-clause-few g c =
    let r = c.in_ok-parting.ensures.read in
    inserted_few c.self.invariant c.self.view_is c.args.a c.args.b c.args.q c.requires.segment c.requires.free c.requires.small c.in_ok-parting.parting.before c.as_slice-after.result.now r.goes (c.as_slice-after.ensures.value ∙ r.comes) c.test_insert.new.tests c.test_insert.ensures.few

pub returns-clause-few : goal.returns-clause-few
returns-clause-few g c =
    let r = c.in_ok-parting.ensures.read in
    rw (ap (λ (s : State). s.tests) c.keep.ensures)
    (inserted_few c.self.invariant c.self.view_is c.args.a c.args.b c.args.q c.requires.segment c.requires.free c.requires.small c.in_ok-parting.parting.before c.as_slice-after.result.now r.goes (c.as_slice-after.ensures.value ∙ r.comes) c.test_insert.new.tests c.test_insert.ensures.few)
