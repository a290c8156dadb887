use Rattle.kit_words.proofs.Common.{◌∙◌, ◌++◌, ◌-◌, if◌then◌else◌, ap, drop, length, map, reverse, take}
use Rattle.grid_geometry.proofs.RingLemmas.{ring_is}
use Rattle.map_text.specs.Common.{list_text}
use Rattle.geo_features.specs.Rings.{position_text}
use Rattle.geo_features.specs.Seen.{view_style}
use Rattle.geo_features.proofs.RingTexts.{ring_is_closed, ring_put}
use Rattle.geo_features.proofs.style.Style.push_ring.Goals as goal

pub returns : goal.returns
returns g c =
    let s = view_style c.args.self.now in
    let ring = c.args.ring.now in
    let first = c.first-item.result in
    let others = take (length ring - 1) (drop 1 ring) in
    let t = c.is_turned.result in
    ring_put (position_text s) first (if t then reverse others else others) c.args.text.now.items _ _ _ _ _ _
    c.in_ok-push.ensures.items c.in_ok-push_position.ensures c.in_ok-push_others.ensures c.in_ok-push-2.ensures.items c.in_ok-push_position-2.ensures c.in_ok-push-3.ensures.items
    ∙ ap (λ z. c.args.text.now.items ++ list_text (map (position_text s) z))
    (ring_is_closed s c.args.is_outer first others ring t (ring_is ring first c.in-len1-up.len_at_least c.first-item.is) c.is_turned.ensures)
