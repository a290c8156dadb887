use Rattle.kit_words.proofs.Common.{◌≡◌, ◌+◌, ◌++◌, ◌∷◌, [], ℕ, List, ap, ap₂, sym, ◌∙◌, drop, drop-map, length, map, map-append, next_drop, option_map, rules, Vec}
use Rattle.grid_geometry.specs.Common.{Position}
use Rattle.topo_outline.specs.Common.{view_item}
use Rattle.topo_outline.specs.declared.document.Item.TheVariants.{Leaf}
use Rattle.map_features.specs.Shapes.{Described, description_of, descriptions_from, heads_in}
use Rattle.map_features.proofs.shapes.push_leaf.Goals as goal

pub returns-in_ok-push : goal.returns-in_ok-push
returns-in_ok-push g c =
    let all = c.args.polygons.now in
    let old = c.args.shapes.now.items in
    let count : c.len-number.result ≡ length old = search rules in
    let given = map (λ p. p.items) all in
    let number = c.len-number.result in
    let head = c.in-Leaf.feature.head in
    let polygons = c.in-Some.polygons.now in
    let lent = c.in-Some.ensures.lookup in
    let heads : heads_in (view_item c.args.item.now) ≡ heads_in (view_item (Leaf c.in-Leaf.feature)) = ap (λ i. heads_in (view_item i)) c.in-Leaf.is in
    let left : drop number given ≡ polygons.items ∷ map (λ p. p.items) (drop (number + 1) all) =
    drop-map (λ p. p.items) number all ∙ ap (map (λ p. p.items)) (next_drop all number polygons lent.3.0 lent.1) in
    let one : descriptions_from number (heads_in (view_item c.args.item.now)) (drop number given)
    ≡ (number, option_map (λ t. t.now) head.id, option_map (λ t. t.now) head.properties, polygons.items) ∷ [] =
    ap₂ (λ hs ps. descriptions_from number hs ps) heads left in
    ap (map description_of) c.in_ok-push.ensures.items ∙ (map-append description_of old _ ∙ ap (λ ds. map description_of old ++ ds)
    (ap (λ ps. (number, option_map (λ t. t.now) head.id, option_map (λ t. t.now) head.properties, ps) ∷ []) c.as_slice.ensures.value
    ∙ (sym one ∙ ap (λ n. descriptions_from n (heads_in (view_item c.args.item.now)) (drop n given)) count)))
