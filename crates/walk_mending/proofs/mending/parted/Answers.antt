use Rattle.kit_words.proofs.Common.{ap, sym, ◌∙◌, subst, flat_map, list_all, IsPermutation}
use Rattle.walk_faults.specs.Common.{walk_segments}
use Rattle.segment_paths.proofs.Led.{some_left}
use Rattle.walk_mending.specs.Common.{rings_of_parts}
use Rattle.walk_mending.proofs.Parting.{are_parts, is_filled, none_left, no_parts, some_odd}
use Rattle.ring_parts.specs.Common.{rings_seen, polygons_seen}
use Rattle.walk_mending.proofs.mending.parted.Goals as goal

pub returns-then-exact : goal.returns-then-exact
returns-then-exact g c =
    are_parts (rings_seen c.args.walks.now) (polygons_seen c.in_ok-parts.parts.items) c.in_ok-odd.odd.items
    (ap (λ z. list_all is_filled (polygons_seen z)) (sym c.as_slice-2.ensures.value) ∙ sym c.in_ok-filled.ensures ∙ c.if-filled.true)
    c.in_ok-odd.ensures.ascending c.in_ok-odd.ensures.odd
    (subst (λ z. IsPermutation (flat_map walk_segments (rings_of_parts (polygons_seen z))) c.in_ok-odd.odd.items) c.as_slice-3.ensures.value
    (subst (IsPermutation (flat_map walk_segments (rings_of_parts (polygons_seen c.as_slice-3.result.now)))) c.as_slice-4.ensures.value
    (c.in_ok-exact.ensures c.if-exact.true)))

pub returns-then-is_empty : goal.returns-then-is_empty
returns-then-is_empty g c =
    let odd = c.in_ok-odd.odd in
    no_parts (rings_seen c.args.walks.now) (polygons_seen c.new.result.items) odd.items
    (none_left odd.items odd.len c.is_empty.result odd.ok.0 c.is_empty.ensures c.if-is_empty.true) c.in_ok-odd.ensures.odd (ap polygons_seen c.new.ensures.items)

pub returns : goal.returns
returns g c =
    let odd = c.in_ok-odd.odd in
    some_odd (rings_seen c.args.walks.now) odd.items
    (some_left odd.items odd.len c.is_empty.result odd.ok.0 c.is_empty.ensures c.if-is_empty.false) c.in_ok-odd.ensures.odd
