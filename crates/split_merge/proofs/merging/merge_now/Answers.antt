use Rattle.kit_words.proofs.Common.{refl, sym, ap, ◌∙◌, subst}
use Rattle.ring_machine.specs.Common.{first_of}
use Rattle.arc_store.specs.Common.{Refuses}
use Rattle.split_merge.specs.Common.{pair_refusals, outline_refusals}
use Rattle.arc_store.proofs.Common.{is_refused, with_refusal}
use Rattle.split_merge.proofs.FirstRefusal.{second_group, refuses_first}
use Rattle.split_merge.proofs.MergeConditions.{merge_groups}
use Rattle.split_merge.proofs.merging.merge_now.Goals as goal

pub returns-in-Err-clause-edits : goal.returns-in-Err-clause-edits
returns-in-Err-clause-edits g c =
    let d = c.args.map.now.doc in
    is_refused
    (subst (λ rs. Refuses c.in-Err.fault (first_of rs)) (sym (merge_groups d c.args.f c.args.g))
    (refuses_first c.in-Err.fault (pair_refusals d c.args.f c.args.g) (outline_refusals d c.args.f c.args.g) c.in-Err.ensures.refused))
    refl

pub returns-in-Err-check_outlines-clause-edits :
    goal.returns-in-Err-check_outlines-clause-edits
returns-in-Err-check_outlines-clause-edits g c =
    let d = c.args.map.now.doc in
    is_refused
    (subst (Refuses c.in-Err-check_outlines.fault)
    (sym (ap first_of (merge_groups d c.args.f c.args.g) ∙ second_group (pair_refusals d c.args.f c.args.g) (outline_refusals d c.args.f c.args.g) c.in_default.ensures.accepted))
    c.in-Err-check_outlines.ensures.refused)
    refl

pub raw_merge-requires : goal.raw_merge-requires
raw_merge-requires g c =
    let d = c.args.map.now.doc in
    ap first_of (merge_groups d c.args.f c.args.g)
    ∙ second_group (pair_refusals d c.args.f c.args.g) (outline_refusals d c.args.f c.args.g) c.in_default.ensures.accepted
    ∙ c.in_default-check_outlines.ensures.accepted

pub returns-clause-edits : goal.returns-clause-edits
returns-clause-edits g c =
    let d = c.args.map.now.doc in
    with_refusal
    (sym (ap first_of (merge_groups d c.args.f c.args.g)
    ∙ second_group (pair_refusals d c.args.f c.args.g) (outline_refusals d c.args.f c.args.g) c.in_default.ensures.accepted
    ∙ c.in_default-check_outlines.ensures.accepted))
    c.raw_merge.ensures.edits
