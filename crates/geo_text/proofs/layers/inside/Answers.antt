use Rattle.kit_words.proofs.Common.{◌≡◌, ◌∙◌, ◌-◌, List, ap, arith, drop, is_some, length, map, not-false, refl, subst, sym, take, true, not, false, Bool}
use Rattle.topo_outline.specs.Common.{view_item}
use Rattle.topo_outline.specs.declared.document.Item.{Item}
use Rattle.geo_text.specs.Found.{inside_pieces}
use Rattle.geo_text.proofs.Collections.{inside_collection}
use Rattle.geo_text.proofs.layers.inside.Goals as goal

there : (b n : Bool) → b ≡ not n → n ≡ false → b ≡ true
there b n e f = e ∙ ap not f

pub returns : goal.returns
returns g c =
    let items = c.as_slice-items.result.now in
    let others = take (length items - 1) (drop 1 items) in
    ap (λ n. map view_item (take n others)) (c.saturating_sub.ensures)
    ∙ inside_collection items c.first-item.result c.head_in.result c.in-len1-up.len_at_least c.first-item.is c.head_in.ensures (there (is_some c.head_in.result) c.is_none.result c.is_none.ensures c.if-is_none.false)
    ∙ ap (λ z. inside_pieces (map view_item z)) c.as_slice-items.ensures.value
