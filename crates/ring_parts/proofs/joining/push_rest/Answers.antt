use Rattle.kit_words.proofs.Common.{◌∙◌, ◌++◌, ap, ap₂, arith, length, take, drop, not, prefix_len}
use Rattle.ring_parts.specs.Common.{off_ones}
use Rattle.ring_parts.proofs.Rests.{rest_is}
use Rattle.ring_parts.proofs.joining.push_rest.Goals as goal

pub rotate_left-requires-2 : goal.rotate_left-requires-2
rotate_left-requires-2 g c =
    omega (arith, c.requires, c.count_off-place.ensures.within, ap length c.as_slice.ensures.value, c.in_ok-begun.ensures.len)

pub push_off-requires : goal.push_off-requires
push_off-requires g c =
    omega (arith, c.requires, ap length c.as_slice.ensures.value, c.as_slice.ensures.len, c.as_slice-2.ensures.len, c.as_slice-3.ensures.len, c.rotate_left.ensures.len, c.rotate_left-2.ensures.len, c.in_ok-begun.ensures.len)

pub returns : goal.returns
returns g c is h =
    let k = c.count_off-place.result in
    c.in_ok-push_off.ensures
    ∙ ap (λ qs. c.args.rest.now.items ++ qs)
    (ap₂ (λ ps bs. off_ones ps bs) c.as_slice-2.ensures.value c.as_slice-3.ensures.value
    ∙ rest_is is c.args.ring.now c.rotate_left-2.new.self.items c.args.common.items c.rotate_left.new.self.items k
    h
    (c.count_off-place.ensures.value ∙ ap (prefix_len not) c.as_slice.ensures.value)
    c.rotate_left.ensures.items
    (c.rotate_left-2.ensures.items ∙ ap (λ r. drop k r ++ take k r) c.in_ok-begun.ensures.items))
