use Rattle.kit_words.proofs.Common.{◌≡◌, true, IfErr-weaker}
use Rattle.ring_machine.specs.Common.{first_of, remove_refusals}
use Rattle.arc_store.specs.Common.{Refuses}
use Rattle.edit_vertex.specs.Common.{needs_no_pairs}
use Rattle.edit_vertex.proofs.Late.{not_early}
use Rattle.edit_vertex.proofs.Removing.{remove_late}
use Rattle.edit_vertex.proofs.remove.remove_now.Goals as goal

pub returns-clause-untested : goal.returns-clause-untested
returns-clause-untested g c =
    let leavable = c.in_default.ensures.leavable in
    IfErr-weaker c.raw_remove.result (λ fault. Refuses fault (first_of (remove_refusals c.args.map.now.doc c.args.p))) (λ fault. needs_no_pairs fault ≡ true → c.raw_remove.new.self.tests ≡ c.args.map.now.tests)
    (λ fault r. not_early fault (remove_late c.args.map.now.doc c.args.p leavable.vertex leavable.inner leavable.long leavable.unjoined fault r))
    c.raw_remove.ensures.edits.refused
