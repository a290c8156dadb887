use Rattle.kit_words.proofs.Common.{◌∙◌, ◌++◌, ◌==◌, ◌≡◌, ap, arith, codes, leb-true, length, map, nat_lt, refl, take_all, true}
use Rattle.topo_reader.specs.Common.{positions_of}
use Rattle.map_text.specs.Common.{commas}
use Rattle.geo_features.specs.Rings.{ring_text}
use Rattle.geo_features.specs.Seen.{view_style}
use Rattle.geo_features.specs.Small.{is_small}
use Rattle.geo_features.proofs.Listed.{list_end}
use Rattle.geo_features.proofs.RingTexts.{all_there, polygon_is, ring_parts, rings_next}
use Rattle.geo_features.proofs.style.Style.push_polygon.Goals as goal

pub push_ring-requires : goal.push_ring-requires
push_ring-requires g c =
    let r = c.index-rings-i.result in
    let small : is_small r ≡ true = all_there is_small c.args.rings.now c.loop-i.i r c.requires (omega arith) c.index-rings-i.is in
    omega (arith, leb-true (length r.items) 4000000 small, ap length c.as_slice.ensures.value)

pub loop-i-preserved : goal.loop-i-preserved
loop-i-preserved g c =
    let s = view_style c.args.self.now in
    let i = c.loop-i.i in
    let r = c.index-rings-i.result in
    rings_next s c.args.rings.now i r (nat_lt 0 i) (i == 0) (c.args.text.now.items ++ codes "[") _ _ _ (omega arith) c.index-rings-i.is refl refl
    c.loop-i.invariant c.in_ok-push_comma.ensures (c.in_ok-push_ring.ensures ∙ ap (λ z. c.push_comma.new.text.items ++ ring_text s (i == 0) z) c.as_slice.ensures.value)

pub returns : goal.returns
returns g c =
    let s = view_style c.args.self.now in
    let rings = c.args.rings.now in
    list_end (ring_parts s (map positions_of rings)) c.args.text.now.items _ _
    (c.loop-i.invariant ∙ ap (λ z. (c.args.text.now.items ++ codes "[") ++ commas (ring_parts s (map positions_of z))) (take_all c.loop-i.i rings (omega arith)))
    c.in_ok-push-2.ensures.items
    ∙ ap (λ z. c.args.text.now.items ++ z) (polygon_is s (map positions_of rings))
