use Rattle.kit_words.proofs.Common.{sym, ap, ◌∙◌, length, option_map, unwrap_or, slice_get-map}
use Rattle.std.specs.List.{slice_get}
use Rattle.map_frame.specs.Common.{polygon_numbers, feature_numbers}
use Rattle.map_frame.proofs.ReadLists.{got, got_none}
use Rattle.map_frame.proofs.reading.FeatureView.ring_count.Goals as goal

pub returns-in-Some : goal.returns-in-Some
returns-in-Some g c =
    let ps = c.self.inside.feature.now.polygons in
    let i = c.args.polygon in
    let p = c.in-Some.rings.now in
    ap length c.as_slice.ensures.value
    ∙ ap (λ o. unwrap_or (option_map length (option_map polygon_numbers o)) 0) (sym (got ps.items c.deref.result.now i c.deref.ensures.value p c.in-Some.ensures.lookup.3.0 c.in-Some.ensures.lookup.1))
    ∙ ap (λ o. unwrap_or (option_map length o) 0) (sym (slice_get-map polygon_numbers ps.items i))
    ∙ ap (λ o. unwrap_or o 0) (sym (slice_get-map length (feature_numbers ps) i))
    ∙ ap (λ v. unwrap_or (slice_get v.rings i) 0) c.self.view_is

pub returns-in-None : goal.returns-in-None
returns-in-None g c =
    let ps = c.self.inside.feature.now.polygons in
    let i = c.args.polygon in
    ap (λ o. unwrap_or (option_map length (option_map polygon_numbers o)) 0) (sym (got_none ps.items c.deref.result.now i c.deref.ensures.value c.in-None.ensures.lookup.3))
    ∙ ap (λ o. unwrap_or (option_map length o) 0) (sym (slice_get-map polygon_numbers ps.items i))
    ∙ ap (λ o. unwrap_or o 0) (sym (slice_get-map length (feature_numbers ps) i))
    ∙ ap (λ v. unwrap_or (slice_get v.rings i) 0) c.self.view_is
