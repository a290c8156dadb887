use Rattle.kit_words.proofs.Common.{◌≡◌, ℕ, ◌+◌, ◌<◌, ◌++◌, List, ap, sym, ◌∙◌, refl, length, map, take, drop, get_or, length-map, length-set, with_items_is}
use Rattle.std.proofs.lemmas.Option.{get_or_from_slice_get, slice_get_within}
use Rattle.topo_outline.specs.Common.{LayerText, Piece, leaves_in, values, view_item, view_layer}
use Rattle.topo_outline.proofs.Common.{values-with_value_at}
use Rattle.topo_reader.specs.Common.{Polygons, feature_positions}
use Rattle.map_mending.specs.Common.{pieces_after, layers_after}
use Rattle.map_mending.proofs.Settling.{ahead_of, settled_more}
use Rattle.map_mending.proofs.forms.settle_layers.Goals as goal

abbrev layer_after : List Polygons → LayerText → LayerText
layer_after all l = record { name = l.name; pieces = pieces_after all l.pieces }

abbrev layer_features : LayerText → ℕ
layer_features l = length (leaves_in l.pieces)

pub loop-i-preserved : goal.loop-i-preserved
loop-i-preserved g c =
    let l = c.loop-i in
    let old = values c.args.layers.now in
    let now = values l.layers in
    let x = c.index_mut-layer.result.now in
    let got = c.index_mut-layer.ensures.value in
    let is : x ≡ get_or now l.i x = sym (get_or_from_slice_get now l.i x x got) in
    let lt : l.i < length now = slice_get_within now l.i x got in
    let value = c.as_mut_slice.ensures.value in
    let fits = c.settle_items-rest.auto.items ∙ c.as_mut_slice.ensures.len in
    let pieces = ap (λ z. map view_item z) (with_items_is x.items c.settle_items-rest.new.items fits) ∙ c.settle_items-rest.ensures.items ∙ ap (λ z. pieces_after (map feature_positions l.rest.now) (map view_item z)) value in
    let rest = c.settle_items-rest.ensures.rest ∙ ap (λ z. drop (length (leaves_in (map view_item z))) l.rest.now) value in
    record {
      ahead = rw (values-with_value_at l.layers l.i _) (ahead_of old now l.i x _ lt l.invariant.long is l.invariant.ahead);
      settled = rw (values-with_value_at l.layers l.i _) (settled_more old now l.i x _ lt l.invariant.long is l.invariant.ahead view_layer feature_positions layer_after layer_features layers_after (λ all p ps. refl)
          l.rest.now c.settle_items-rest.result.now _ l.invariant.settled (ap (λ (ps : List Piece). record { name = x.name.now; pieces = ps }) pieces) rest);
      long = rw (values-with_value_at l.layers l.i _) (length-set now l.i _ ∙ l.invariant.long);
    }
