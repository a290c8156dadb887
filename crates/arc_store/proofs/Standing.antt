-- What was read can stand as the frame of a map.
use Rattle.kit_words.proofs.Common.{◌≡◌, ◌∙◌, ℕ, sym, List, length, map, option_map, Vec, length-map}
use Rattle.topo_outline.specs.Common.{values, view_kept}
use Rattle.topo_reader.specs.Common.{IsOfRings, view_raw, polygon_positions, feature_positions}
use Rattle.topo_reader.specs.declared.document.RawDoc.{RawDoc}
use Rattle.map_frame.specs.Common.{CanStand}
use Rattle.map_frame.proofs.BuiltAlike.{alike_stand, lengths_of}

module _ {A : Type 0} where
  -- with as many polygons of ring numbers for each feature
  pub can_stand : (raw : RawDoc A) (ns : List (Vec (Vec ℕ A) A)) → IsOfRings (view_raw raw)
      → map (λ n. length n.items) ns ≡ map (λ f. length f.items) raw.polygons.items
      → CanStand (option_map (λ t. t.now) raw.transform) (values raw.layers) (map view_kept raw.members.items) ns
  can_stand raw ns h e =
      alike_stand (option_map (λ t. t.now) raw.transform) (values raw.layers) (map view_kept raw.members.items)
      (map feature_positions raw.polygons.items) ns h.counted h.few h.formed
      (e ∙ sym (lengths_of feature_positions (λ f. length f.items) (λ f. length-map f.items polygon_positions) raw.polygons.items))
