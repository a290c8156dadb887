use Rattle.kit_words.proofs.Common.{arith, refl, sym, ap, ◌∙◌, ◌++◌, map, get_or, codes, decimal, take_all}
use Rattle.kit_words.proofs.Common.{get_or_default, appended_three}
use Rattle.std.proofs.Common.{append-nil}
use Rattle.map_text.specs.Common.{commas}
use Rattle.place_text.proofs.Listed.{map_step}
use Rattle.cover_places.proofs.objects.push_features.Goals as goal

pub loop-index-init : goal.loop-index-init
loop-index-init g c = c.in_ok-extend_from_slice.ensures.items ∙ sym (append-nil (c.args.text.now.items ++ codes ",\"features\":["))

pub loop-index-preserved : goal.loop-index-preserved
loop-index-preserved g c =
    let numbers = c.args.numbers.now in
    let i = c.loop-index.index in
    map_step decimal numbers i (get_or numbers i 0) c.loop-index-test.true (get_or_default numbers i 0 (get_or numbers i 0) c.loop-index-test.true)
    (c.args.text.now.items ++ codes ",\"features\":[") c.loop-index.text.items c.push_comma.new.text.items c.push_number.new.text.items
    c.loop-index.invariant c.in_ok-push_comma.ensures c.in_ok-push_number.ensures

pub returns : goal.returns
returns g c =
    let begun = c.args.text.now.items ++ codes ",\"features\":[" in
    appended_three c.args.text.now.items (codes ",\"features\":[") (commas (map decimal c.args.numbers.now)) (codes "]") begun c.loop-index.text.items _ refl
    (c.loop-index.invariant ∙ ap (λ z. begun ++ commas (map decimal z)) (take_all c.loop-index.index c.args.numbers.now (omega arith)))
    c.in_ok-extend_from_slice-2.ensures.items
