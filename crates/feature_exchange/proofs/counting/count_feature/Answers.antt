use Rattle.kit_words.proofs.Common.{sym, ap, ◌∙◌, length, option_map, arith, sum_by}
use Rattle.ring_parts.specs.Common.{polygons_seen}
use Rattle.edit_records.specs.Common.{weight}
use Rattle.feature_exchange.specs.Common.{feature_seen}
use Rattle.feature_exchange.proofs.ChangesCounted.{weight_polygons}
use Rattle.feature_exchange.proofs.counting.count_feature.Goals as goal

pub count_all-requires : goal.count_all-requires
count_all-requires g c =
    let seen = ap (λ z. sum_by (sum_by length) (polygons_seen z)) c.as_slice.ensures.value in
    let all = weight_polygons c.in-Some.whole in
    let is = ap (λ o. weight (option_map (feature_seen 0) o)) c.in-Some.is in
    omega (arith, seen, all, is, c.requires)

pub returns-in-Some : goal.returns-in-Some
returns-in-Some g c =
    c.count_all.ensures ∙ ap (λ z. sum_by (sum_by length) (polygons_seen z)) c.as_slice.ensures.value
    ∙ weight_polygons c.in-Some.whole ∙ ap (λ o. weight (option_map (feature_seen 0) o)) (sym c.in-Some.is)
