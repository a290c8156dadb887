use Rattle.kit_words.proofs.Common.{sym, ap, ◌∙◌, ◌++◌, codes, option_map, appended_two}
use Rattle.place_text.specs.Common.{transform_member}
use Rattle.cover_places.proofs.topology.push_transform.Goals as goal

pub returns : goal.returns
returns g c =
    let old = c.args.text.now.items in
    appended_two old (codes ",\"transform\":") c.in-Some.transform.now c.extend_from_slice.new.self.items c.extend_from_slice-2.new.self.items
    c.in_ok-extend_from_slice.ensures.items c.in_ok-extend_from_slice-2.ensures.items
    ∙ ap (λ o. old ++ transform_member (option_map (λ t. t.now) o)) (sym c.in-Some.is)
