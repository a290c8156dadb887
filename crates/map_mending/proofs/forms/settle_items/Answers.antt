use Rattle.kit_words.proofs.Common.{◌≡◌, ◌<◌, ◌≤◌, get_or, ap, sym, ◌∙◌, refl, length, arith, drop_all}
use Rattle.topo_outline.specs.Common.{view_item}
use Rattle.topo_reader.specs.Common.{feature_positions}
use Rattle.map_mending.specs.Common.{features_at, piece_after, pieces_after}
use Rattle.map_mending.proofs.Settling.{ahead_of, settled_more, left_more, left_none}
use Rattle.map_mending.proofs.forms.settle_items.Goals as goal

pub loop-item-preserved : goal.loop-item-preserved
loop-item-preserved g c =
    let l = c.loop-item in
    let old = c.args.items.now in
    let x = get_or l.items l.item-index c.item-item.result in
    let is : x ≡ get_or l.items l.item-index x = ap (λ z. get_or l.items l.item-index z) c.item-item.is in
    let y = c.settle_item-rest.new.item in
    let lt : l.item-index < length l.items = omega arith in
    let same : length l.items ≡ length old = omega arith in
    let rest' = c.settle_item-rest.result.now in
    record {
      ahead = ahead_of old l.items l.item-index x y lt same is l.invariant.ahead;
      settled = settled_more old l.items l.item-index x y lt same is l.invariant.ahead view_item feature_positions piece_after features_at pieces_after (λ all p ps. refl)
          l.rest.now rest' _ l.invariant.settled c.settle_item-rest.ensures.item c.settle_item-rest.ensures.rest;
      left = left_more old l.items l.item-index x y lt same is l.invariant.ahead view_item l.rest.now rest' _ l.invariant.left c.settle_item-rest.ensures.rest;
    }

pub returns-clause-rest : goal.returns-clause-rest
returns-clause-rest g c =
    let l = c.loop-item in
    let over : length c.args.items.now ≤ l.item-index = omega arith in
    sym (left_none view_item c.args.items.now l.item-index l.rest.now (drop_all l.item-index c.args.items.now over)) ∙ l.invariant.left
