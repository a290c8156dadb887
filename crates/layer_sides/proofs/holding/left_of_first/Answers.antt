use Rattle.kit_words.proofs.Common.{◌≤◌, arith, length}
use Rattle.layer_sides.specs.Seen.{borders_seen}
use Rattle.layer_sides.proofs.HoldingSides.{bounds_sorted, first_below, if_ok_from, left_odd, none_odd, right_sorted}
use Rattle.layer_sides.proofs.holding.left_of_first.Goals as goal

pub flipped-requires-clause-numbers : goal.flipped-requires-clause-numbers
flipped-requires-clause-numbers g c =
    let item = c.in-Some.ensures.item in
    let place = c.in-Some.place.now in
    let n = length c.args.borders.now in
    right_sorted c.args.borders.now c.args.list.now place c.index-borders-place.result c.as_slice.result.now item.3.0 item.1
    (first_below n c.args.list.now place item.3.0 item.1 c.requires.below) c.index-borders-place.is c.as_slice.ensures.value c.requires.numbered

pub flipped-requires-clause-others : goal.flipped-requires-clause-others
flipped-requires-clause-others g c =
    let item = c.in-Some.ensures.item in
    let place = c.in-Some.place.now in
    let n = length c.args.borders.now in
    bounds_sorted c.args.borders.now place c.index-borders-place.result c.as_slice-in-Some.result.now
    (first_below n c.args.list.now place item.3.0 item.1 c.requires.below) c.index-borders-place.is c.as_slice-in-Some.ensures.value c.requires.sorted

pub returns-in-Some : goal.returns-in-Some
returns-in-Some g c =
    let item = c.in-Some.ensures.item in
    let place = c.in-Some.place.now in
    let n = length c.args.borders.now in
    if_ok_from c.flipped.result
    (λ found either sorted.
    left_odd c.args.borders.now c.args.list.now place c.index-borders-place.result c.as_slice-in-Some.result.now c.as_slice.result.now found.items item.3.0 item.1
    (first_below n c.args.list.now place item.3.0 item.1 c.requires.below) c.index-borders-place.is c.as_slice-in-Some.ensures.value c.as_slice.ensures.value c.requires.numbered either sorted)
    c.flipped.ensures.either c.flipped.ensures.sorted

pub returns-in-None : goal.returns-in-None
returns-in-None g c =
    let item = c.in-None.ensures.item in
    let none : length c.args.list.now ≤ 0 = item.3 in
    none_odd (borders_seen c.args.borders.now) c.args.list.now c.new.result.items (omega (arith, none)) c.new.ensures.items
