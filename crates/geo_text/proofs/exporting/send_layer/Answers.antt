use Rattle.kit_words.proofs.Common.{◌≡◌, ◌∙◌, IsTrue, List, Ok, ap, map, refl, subst, sym}
use Rattle.device_io.proofs.Common.{took_nothing}
use Rattle.topo_outline.specs.Common.{LayerText, view_layer}
use Rattle.topo_reader.specs.Common.{document_of, view_raw}
use Rattle.geo_text.specs.Exported.{SendsGiven}
use Rattle.geo_text.specs.Found.{asked_texts, view_found}
use Rattle.geo_features.specs.Gives.{IsGeoFault}
use Rattle.geo_text.specs.Layer.{the_only}
use Rattle.geo_features.specs.Seen.{view_style}
use Rattle.geo_features.specs.Small.{each_small}
use Rattle.geo_text.specs.Text.{geo_text}
use Rattle.geo_text.specs.Wants.{view_asked}
use Rattle.geo_text.proofs.LayersSent.{by_layer, layer_stops, style_at_fault}
use Rattle.geo_text.proofs.ReadRings.{read_small}
use Rattle.geo_text.proofs.Sent.{stopped}
use Rattle.geo_text.proofs.exporting.send_layer.Goals as goal

pub returns-in-Err : goal.returns-in-Err
returns-in-Err g c =
    let o = view_raw c.args.raw.now in
    let wants = view_asked c.args.asked in
    let layers : map view_layer c.as_slice.result.now ≡ o.layers = ap (map view_layer) (c.as_slice.ensures ∙ c.values-layers.ensures.rest) in
    stopped c.in-Err.fault (geo_text wants (document_of o)) (took_nothing c.requires.working)
    (layer_stops wants o c.in-Err.fault
    (subst (λ (z : List LayerText). IsGeoFault c.in-Err.fault (the_only (asked_texts wants.layer 0 0 z))) layers c.in-Err.ensures))

pub returns-in-Err-style_of : goal.returns-in-Err-style_of
returns-in-Err-style_of g c =
    let o = view_raw c.args.raw.now in
    let wants = view_asked c.args.asked in
    let layers : map view_layer c.as_slice.result.now ≡ o.layers = ap (map view_layer) (c.as_slice.ensures ∙ c.values-layers.ensures.rest) in
    stopped c.in-Err-style_of.fault (geo_text wants (document_of o)) (took_nothing c.requires.working)
    (style_at_fault wants o c.in-Err-style_of.fault (view_found c.in-Ok.value)
    (subst (λ (z : List LayerText). the_only (asked_texts wants.layer 0 0 z) ≡ Ok (view_found c.in-Ok.value)) layers c.in-Ok.ensures) c.in-Err-style_of.ensures)

pub invariant_of-writer : goal.invariant_of-writer
invariant_of-writer g c = record {
  small = subst (λ z. IsTrue (each_small z)) (sym c.as_slice-2.ensures.value)
      (read_small (view_raw c.args.raw.now) c.args.raw.now.polygons.items c.requires.rings refl);
}

pub returns : goal.returns
returns g c =
    let o = view_raw c.args.raw.now in
    let wants = view_asked c.args.asked in
    let layers : map view_layer c.as_slice.result.now ≡ o.layers = ap (map view_layer) (c.as_slice.ensures ∙ c.values-layers.ensures.rest) in
    subst (SendsGiven g.W.Sink c.args.out.now c.send_found.new.out c.send_found.result)
    (by_layer wants o (view_found c.in-Ok.value) (view_style c.in-Ok-style_of.value)
    (subst (λ (z : List LayerText). the_only (asked_texts wants.layer 0 0 z) ≡ Ok (view_found c.in-Ok.value)) layers c.in-Ok.ensures) c.in-Ok-style_of.ensures)
    c.send_found.ensures
