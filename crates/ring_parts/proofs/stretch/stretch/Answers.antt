use Rattle.kit_words.proofs.Common.{◌≡◌, ◌∙◌, ◌++◌, ◌∷◌, [], ◌-◌, ap, arith, drop, take, length, take_all}
use Rattle.std.proofs.Common.{length-drop}
use Rattle.ring_machine.specs.Common.{before, begin_at}
use Rattle.ring_parts.proofs.Turning.{turned_at, take_before}
use Rattle.ring_parts.proofs.stretch.stretch.Goals as goal

pub returns : goal.returns
returns g c =
    let k = c.count_before-place.result in
    let ring = c.args.ring.now in
    let to = c.args.to in
    let turned = c.extend_from_slice-2.new.self.items in
    let whole : take (length ring - k) (drop k ring) ≡ drop k ring = take_all (length ring - k) (drop k ring) (omega (arith, length-drop k ring)) in
    let begun : turned ≡ begin_at c.args.from ring =
    c.in_ok-extend_from_slice-2.ensures.items
    ∙ ap (λ ps. ps ++ take k ring) (c.in_ok-extend_from_slice.ensures.items ∙ ap (λ ps. ps ++ take (length ring - k) (drop k ring)) c.in_ok-way.ensures.items ∙ whole)
    ∙ ap (λ n. drop n ring ++ take n ring) c.count_before-place.ensures.value
    ∙ turned_at c.args.from ring in
    c.in_ok-push.ensures.items
    ∙ ap (λ ps. ps ++ to ∷ [])
    (c.truncate.ensures.items
    ∙ ap (λ n. take n turned) (c.count_before-count.ensures.value ∙ ap (λ ps. length (before to ps)) c.as_slice.ensures.value)
    ∙ take_before to turned
    ∙ ap (before to) begun)
