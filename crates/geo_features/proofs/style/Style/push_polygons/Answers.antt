use Rattle.kit_words.proofs.Common.{◌∙◌, ◌++◌, ap, arith, codes, map, nat_lt, refl, take_all}
use Rattle.topo_reader.specs.Common.{polygon_positions, positions_of}
use Rattle.map_text.specs.Common.{commas}
use Rattle.geo_features.specs.Rings.{polygon_text}
use Rattle.geo_features.specs.Seen.{view_style}
use Rattle.geo_features.specs.Small.{are_small}
use Rattle.geo_features.proofs.Listed.{list_end, map_next}
use Rattle.geo_features.proofs.RingTexts.{all_there}
use Rattle.geo_features.proofs.style.Style.push_polygons.Goals as goal

pub push_polygon-requires : goal.push_polygon-requires
push_polygon-requires g c =
    let p = c.index-polygons-i.result in
    ap are_small c.as_slice.ensures.value ∙ all_there (λ polygon. are_small polygon.items) c.args.polygons.now c.loop-i.i p c.requires (omega arith) c.index-polygons-i.is

pub loop-i-preserved : goal.loop-i-preserved
loop-i-preserved g c =
    let s = view_style c.args.self.now in
    let i = c.loop-i.i in
    let p = c.index-polygons-i.result in
    map_next (polygon_text s) polygon_positions c.args.polygons.now i p (nat_lt 0 i) (c.args.text.now.items ++ codes "[") _ _ _ (omega arith) c.index-polygons-i.is refl
    c.loop-i.invariant c.in_ok-push_comma.ensures (c.in_ok-push_polygon.ensures ∙ ap (λ z. c.push_comma.new.text.items ++ polygon_text s (map positions_of z)) c.as_slice.ensures.value)

pub returns : goal.returns
returns g c =
    let s = view_style c.args.self.now in
    let polygons = c.args.polygons.now in
    list_end (map (polygon_text s) (map polygon_positions polygons)) c.args.text.now.items _ _
    (c.loop-i.invariant ∙ ap (λ z. (c.args.text.now.items ++ codes "[") ++ commas (map (polygon_text s) (map polygon_positions z))) (take_all c.loop-i.i polygons (omega arith)))
    c.in_ok-push-2.ensures.items
