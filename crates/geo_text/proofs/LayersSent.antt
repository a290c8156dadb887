-- A layer that was found, sent piece by piece.
use Rattle.kit_words.proofs.Common.{◌≡◌, ◌++◌, ◌∙◌, Bool, List, Option, Result, Ok, ap, refl, sym, subst}
use Rattle.device_io.specs.Common.{Took}
use Rattle.device_io.specs.declared.Sink as sink
use Rattle.ring_machine.specs.Common.{Head, Item, Member, Text}
use Rattle.topo_outline.specs.Common.{items_from}
use Rattle.topo_reader.specs.Common.{Opened, document_of}
use Rattle.geo_features.specs.declared.fault.ExportFault.{ExportFault}
use Rattle.geo_text.specs.Exported.{SendsGiven, layer_text}
use Rattle.geo_features.specs.Faults.{GeoFault, ◌>>=◌}
use Rattle.geo_text.specs.Found.{FoundText, asked_texts, head_of_pieces, head_or_none, inside_pieces}
use Rattle.geo_features.specs.Gives.{IsGeoFault}
use Rattle.geo_text.specs.Items.{At, begin_at, items_text}
use Rattle.geo_text.specs.Layer.{front_of, the_only}
use Rattle.geo_text.specs.Text.{geo_text, style_of}
use Rattle.geo_features.specs.Style.{Style}
use Rattle.geo_text.specs.Wants.{Wants}
use Rattle.geo_text.proofs.AskedLayers.{text_by_found}
use Rattle.geo_features.proofs.Carrying.{stops_first}
use Rattle.geo_text.proofs.Sent.{sends_after}

-- ---- one layer

module _ (s : Style) (flattens : Bool) (found : FoundText) (o : Opened) (h : Option Head) (ms : List Member)
    (head : h ≡ head_of_pieces found.layer.pieces) (members : ms ≡ o.members) where
  front_same : front_of found.layer.name (head_or_none h) ms ≡ front_of found.layer.name (head_or_none (head_of_pieces found.layer.pieces)) o.members
  front_same = rw (head, members) refl

  -- the collection is at fault before its first Feature
  pub front_stops : (e : ExportFault) → IsGeoFault e (front_of found.layer.name (head_or_none h) ms) → IsGeoFault e (layer_text s flattens found o)
  front_stops e is =
      stops_first e (front_of found.layer.name (head_or_none (head_of_pieces found.layer.pieces)) o.members)
      (λ front. items_text flattens s (begin_at found.points) (items_from found.leaves o.polygons (inside_pieces found.layer.pieces)) >>= λ rest. Ok (front ++ rest))
      (subst (IsGeoFault e) front_same is)

  -- the items, after what stands before them
  pub layer_sent : {W T : Type 0} {its : sink.Ghosts W} (old mid new : W) (result : Result T ExportFault) (front : Text) (at : At) (items : List Item)
      → front_of found.layer.name (head_or_none h) ms ≡ Ok front → Took its old mid front
      → at ≡ begin_at found.points → items ≡ items_from found.leaves o.polygons (inside_pieces found.layer.pieces)
      → SendsGiven its mid new result (items_text flattens s at items) → SendsGiven its old new result (layer_text s flattens found o)
  layer_sent {its = its} old mid new result front at items is took begins are sent =
      sends_after old mid new result (front_of found.layer.name (head_or_none (head_of_pieces found.layer.pieces)) o.members)
      (items_text flattens s (begin_at found.points) (items_from found.leaves o.polygons (inside_pieces found.layer.pieces)))
      (sym front_same ∙ is) took
      (subst (λ (z : List Item). SendsGiven its mid new result (items_text flattens s (begin_at found.points) z)) are
      (subst (λ (z : At). SendsGiven its mid new result (items_text flattens s z items)) begins sent))

-- ---- the one that is asked for

module _ (wants : Wants) (o : Opened) where
  pub layer_stops : (e : ExportFault) → IsGeoFault e (the_only (asked_texts wants.layer 0 0 o.layers)) → IsGeoFault e (geo_text wants (document_of o))
  layer_stops e is =
      subst (IsGeoFault e) (sym (text_by_found wants o))
      (stops_first e (the_only (asked_texts wants.layer 0 0 o.layers)) (λ found. style_of wants (document_of o) >>= λ s. layer_text s wants.flattens found o) is)

  by_found : (found : FoundText) → the_only (asked_texts wants.layer 0 0 o.layers) ≡ Ok found
      → geo_text wants (document_of o) ≡ (style_of wants (document_of o) >>= λ s. layer_text s wants.flattens found o)
  by_found found is =
      text_by_found wants o
      ∙ ap (λ (r : Result FoundText GeoFault). r >>= λ found. style_of wants (document_of o) >>= λ s. layer_text s wants.flattens found o) is

  pub style_at_fault : (e : ExportFault) (found : FoundText) → the_only (asked_texts wants.layer 0 0 o.layers) ≡ Ok found
      → IsGeoFault e (style_of wants (document_of o)) → IsGeoFault e (geo_text wants (document_of o))
  style_at_fault e found one is =
      subst (IsGeoFault e) (sym (by_found found one)) (stops_first e (style_of wants (document_of o)) (λ s. layer_text s wants.flattens found o) is)

  pub by_layer : (found : FoundText) (s : Style) → the_only (asked_texts wants.layer 0 0 o.layers) ≡ Ok found → style_of wants (document_of o) ≡ Ok s
      → layer_text s wants.flattens found o ≡ geo_text wants (document_of o)
  by_layer found s one is =
      sym (by_found found one ∙ ap (λ (r : Result Style GeoFault). r >>= λ s. layer_text s wants.flattens found o) is)
