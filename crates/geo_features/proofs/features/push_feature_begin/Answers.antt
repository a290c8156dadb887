use Rattle.kit_words.proofs.Common.{◌++◌, ◌∙◌, ◌∷◌, [], ap, codes, map, Bor, List, ℕ}
use Rattle.topo_outline.specs.Common.{view_head}
use Rattle.map_text.specs.Common.{further, member, member_text}
use Rattle.geo_features.proofs.FeatureTexts.{begin_last, text_or_null}
use Rattle.geo_features.proofs.features.push_feature_begin.Goals as goal

pub returns : goal.returns
returns g c =
    let h = c.args.head.now in
    let before = c.push_member_if.new.text.items in
    begin_last c.extend_from_slice-2.result (view_head h) c.args.text.now.items _ before _ _
    c.in_ok-extend_from_slice.ensures.items c.in_ok-push_member_if.ensures
    (c.in_ok-push_member.ensures ∙ ap (λ z. before ++ further (map member_text (member (codes "\"properties\"") z ∷ [])))
    (ap (λ (t : Bor (List ℕ)). t.now) c.unwrap_or.ensures ∙ text_or_null h.properties _))
    c.extend_from_slice-2.ensures.items
