use Rattle.kit_words.proofs.Common.{◌≡◌, ◌∙◌, ◌++◌, ◌-◌, ◌∷◌, [], ap, ap₂, sym, not, filter, map, take, drop, length}
use Rattle.ring_machine.specs.Common.{second_part, first_part, canonical, goes_first}
use Rattle.ring_parts.specs.Common.{path_seen, rings_seen}
use Rattle.ring_parts.proofs.Lengths.{second_is}
use Rattle.ring_parts.proofs.polygons.both_parts.Goals as goal

pub returns-clause-second : goal.returns-clause-second
returns-clause-second g c =
    let path = path_seen c.args.path.now in
    let polygon = c.args.polygon.now in
    let holes = rings_seen (take (length polygon - 1) (drop 1 polygon)) in
    let first = c.as_slice-5.ensures.value ∙ c.in_ok-first.ensures ∙ ap (λ o. first_part o path) c.as_slice.ensures.value in
    let second = c.in_ok-canonical-2.ensures ∙ ap canonical (c.as_slice-4.ensures.value ∙ c.in_ok-second.ensures ∙ ap (λ o. second_part o path) c.as_slice-2.ensures.value) in
    let begun = ap rings_seen (c.in_ok-push-2.ensures.items ∙ ap (λ rs. rs ++ c.in_ok-canonical-2.field-0 ∷ []) c.new-others.ensures.items) ∙ ap (λ r. r ∷ []) second in
    c.in_ok-part_holes.ensures.second
    ∙ ap₂ (λ qs f. qs ++ filter (λ h. not (goes_first f h)) holes) begun first
    ∙ sym (second_is (λ r. r.items) path polygon c.outer-item.result c.in-len1-up.len_at_least c.outer-item.is)
