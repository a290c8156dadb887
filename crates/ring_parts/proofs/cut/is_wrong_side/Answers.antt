use Rattle.kit_words.proofs.Common.{◌∙◌, ◌&&◌, ap, ap₂, sym, arith, length, not}
use Rattle.grid_geometry.specs.Common.{signed_area}
use Rattle.ring_machine.specs.Common.{first_part, second_part, same_sign}
use Rattle.ring_parts.specs.Common.{path_seen}
use Rattle.ring_parts.proofs.Lengths.{first_few, second_few, outer_is, sides_of}
use Rattle.ring_parts.proofs.cut.is_wrong_side.Goals as goal

-- a part has at most the ring, the path and one position more
pub keep_sign-keep-requires-clause-few_first : goal.keep_sign-keep-requires-clause-few_first
keep_sign-keep-requires-clause-few_first g c =
    omega (arith, ap length c.as_slice-3.ensures.value, ap length c.in_ok-first.ensures, ap length c.as_slice.ensures.value, first_few c.as_slice.result.now (path_seen c.args.path.now), outer_is (λ r. r.items) c.args.polygon.now c.outer-item.result c.in-len1-up.len_at_least c.outer-item.is)

pub keep_sign-keep-requires-clause-few_second : goal.keep_sign-keep-requires-clause-few_second
keep_sign-keep-requires-clause-few_second g c =
    omega (arith, ap length c.as_slice-4.ensures.value, ap length c.in_ok-second.ensures, ap length c.as_slice-2.ensures.value, second_few c.as_slice-2.result.now (path_seen c.args.path.now), outer_is (λ r. r.items) c.args.polygon.now c.outer-item.result c.in-len1-up.len_at_least c.outer-item.is)

pub keep_sign-keep-requires-clause-few : goal.keep_sign-keep-requires-clause-few
keep_sign-keep-requires-clause-few g c =
    omega (arith, ap length c.as_slice-5.ensures.value, outer_is (λ r. r.items) c.args.polygon.now c.outer-item.result c.in-len1-up.len_at_least c.outer-item.is)

pub returns : goal.returns
returns g c =
    let path = path_seen c.args.path.now in
    let area = ap signed_area c.as_slice-5.ensures.value in
    let first = c.as_slice-3.ensures.value ∙ c.in_ok-first.ensures ∙ ap (λ ps. first_part ps path) c.as_slice.ensures.value in
    let second = c.as_slice-4.ensures.value ∙ c.in_ok-second.ensures ∙ ap (λ ps. second_part ps path) c.as_slice-2.ensures.value in
    ap not (c.keep_sign-keep.ensures ∙ ap₂ (λ y z. y && z) (ap₂ (λ ps a. same_sign (signed_area ps) a) first area) (ap₂ (λ ps a. same_sign (signed_area ps) a) second area))
    ∙ sym (sides_of (λ r. r.items) path c.args.polygon.now c.outer-item.result c.in-len1-up.len_at_least c.outer-item.is)
