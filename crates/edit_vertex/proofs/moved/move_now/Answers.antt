use Rattle.kit_words.proofs.Common.{◌≡◌, true, refl, sym, ◌∙◌, IfErr-weaker}
use Rattle.ring_machine.specs.Common.{first_of, move_refusals}
use Rattle.arc_store.specs.Common.{Refuses}
use Rattle.arc_store.proofs.Common.{is_refused}
use Rattle.edit_vertex.specs.Common.{needs_no_pairs}
use Rattle.edit_vertex.proofs.Late.{not_early}
use Rattle.edit_vertex.proofs.Moving.{move_no_vertex, move_occupied, move_late}
use Rattle.edit_vertex.proofs.moved.move_now.Goals as goal

pub returns-then-not-has_vertex-clause-edits : goal.returns-then-not-has_vertex-clause-edits
returns-then-not-has_vertex-clause-edits g c =
    is_refused (move_no_vertex c.args.map.now.doc c.args.p c.args.q (sym c.has_vertex.ensures ∙ c.if-not-has_vertex.true)) refl

pub returns-then-has_vertex-clause-edits : goal.returns-then-has_vertex-clause-edits
returns-then-has_vertex-clause-edits g c =
    is_refused (move_occupied c.args.map.now.doc c.args.p c.args.q (sym c.has_vertex.ensures ∙ c.if-not-has_vertex.false) (sym c.has_vertex-2.ensures ∙ c.if-has_vertex.true)) refl

pub returns-clause-untested : goal.returns-clause-untested
returns-clause-untested g c =
    IfErr-weaker c.raw_move.result (λ fault. Refuses fault (first_of (move_refusals c.args.map.now.doc c.args.p c.args.q))) (λ fault. needs_no_pairs fault ≡ true → c.raw_move.new.self.tests ≡ c.args.map.now.tests)
    (λ fault r. not_early fault (move_late c.args.map.now.doc c.args.p c.args.q (sym c.has_vertex.ensures ∙ c.if-not-has_vertex.false) (sym c.has_vertex-2.ensures ∙ c.if-has_vertex.false) fault r))
    c.raw_move.ensures.edits.refused
