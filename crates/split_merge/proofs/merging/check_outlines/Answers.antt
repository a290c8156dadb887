use Rattle.kit_words.proofs.Common.{ap, ◌∙◌, arith}
use Rattle.ring_parts.specs.Common.{polygons_seen}
use Rattle.split_merge.specs.Common.{only_outer}
use Rattle.split_merge.proofs.MergeConditions.{outer_small}
use Rattle.split_merge.proofs.merging.check_outlines.Goals as goal

pub check_rings-requires-clause-few : goal.check_rings-requires-clause-few
check_rings-requires-clause-few g c =
    let ring = c.in-Some-Some.ensures ∙ ap (λ ps. only_outer (polygons_seen ps)) c.as_slice.ensures.value ∙ ap only_outer c.in_ok-ones.ensures in
    omega (arith, outer_small c.args.map.now.doc c.args.f c.in-Some-Some.one.now ring, c.requires)

pub check_rings-requires-clause-few_others : goal.check_rings-requires-clause-few_others
check_rings-requires-clause-few_others g c =
    let ring = c.in-Some-Some.ensures' ∙ ap (λ ps. only_outer (polygons_seen ps)) c.as_slice-2.ensures.value ∙ ap only_outer c.in_ok-others.ensures in
    omega (arith, outer_small c.args.map.now.doc c.args.g c.in-Some-Some.other.now ring, c.requires)
