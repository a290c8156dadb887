-- The rings that the code holds are those of the document.
use Rattle.kit_words.proofs.Common.{◌≡◌, ◌≤◌, ◌++◌, ◌∙◌, ◌∷◌, [], true, List, Vec, length, map, ap, ap₂, sym, refl, arith, flat_map, sum_by}
use Rattle.kit_words.proofs.Common.{flat_map-append, sum_by-append, sum_by-cons, le-leb, and_from, take_all}
use Rattle.std.proofs.lemmas.List.Folds.{flat_map-map}
use Rattle.grid_geometry.specs.Common.{Position}
use Rattle.ring_machine.specs.Common.{rings}
use Rattle.topo_outline.specs.Common.{leaves}
use Rattle.topo_reader.specs.Common.{IsOfRings, Opened, Polygons, document_of, feature_positions, polygon_positions, positions_of}
use Rattle.topo_reader.proofs.Common.{rings_document, rings_within}
use Rattle.geo_features.specs.Small.{all_small, are_small, each_small, is_small}

-- a document has the rings that were read
pub rings_read : (o : Opened) → IsOfRings o → rings (document_of o) ≡ flat_map rings_within o.polygons
rings_read o is =
    rings_document o.polygons o.layers
    ∙ ap (λ (ps : List Polygons). flat_map rings_within ps) (take_all (length (leaves o.layers)) o.polygons (omega (arith, is.counted)))

module _ {A : Type 0} where
  -- all rings, polygon after polygon
  pub rings_held : (features : List (Vec (Vec (Vec Position A) A) A))
      → flat_map rings_within (map feature_positions features) ≡ flat_map (λ polygon. map positions_of polygon.items) (flat_map (λ polygons. polygons.items) features)
  rings_held [] = refl
  rings_held (f ∷ features) =
      ap₂ (λ (x y : List (List Position)). x ++ y) (flat_map-map (λ polygon. polygon) polygon_positions f.items) (rings_held features)
      ∙ sym (flat_map-append (λ polygon. map positions_of polygon.items) f.items (flat_map (λ polygons. polygons.items) features))

  -- ---- a ring is no longer than all together

  small_rings : (rs : List (Vec Position A)) → sum_by length (map positions_of rs) ≤ 4000000 → are_small rs ≡ true
  small_rings [] h = refl
  small_rings (r ∷ rs) h =
      let cons = sum_by-cons length r.items (map positions_of rs) in
      and_from (is_small r) (are_small rs) (le-leb (length r.items) 4000000 (omega (arith, cons))) (small_rings rs (omega (arith, cons)))

  small_polygons : (ps : List (Vec (Vec Position A) A)) → sum_by length (flat_map (λ polygon. map positions_of polygon.items) ps) ≤ 4000000 → all_small ps ≡ true
  small_polygons [] h = refl
  small_polygons (p ∷ ps) h =
      let both = sum_by-append length (map positions_of p.items) (flat_map (λ polygon. map positions_of polygon.items) ps) in
      and_from (are_small p.items) (all_small ps) (small_rings p.items (omega (arith, both))) (small_polygons ps (omega (arith, both)))

  small_features : (fs : List (Vec (Vec (Vec Position A) A) A))
      → sum_by length (flat_map (λ polygon. map positions_of polygon.items) (flat_map (λ polygons. polygons.items) fs)) ≤ 4000000 → each_small fs ≡ true
  small_features [] h = refl
  small_features (f ∷ fs) h =
      let of : Vec (Vec Position A) A → List (List Position) = λ polygon. map positions_of polygon.items in
      let split : flat_map of (f.items ++ flat_map (λ polygons. polygons.items) fs) ≡ flat_map of f.items ++ flat_map of (flat_map (λ polygons. polygons.items) fs) =
      flat_map-append of f.items (flat_map (λ polygons. polygons.items) fs) in
      let both = ap (sum_by length) split ∙ sum_by-append length (flat_map of f.items) (flat_map of (flat_map (λ polygons. polygons.items) fs)) in
      and_from (all_small f.items) (each_small fs) (small_polygons f.items (omega (arith, both))) (small_features fs (omega (arith, both)))

  -- no ring that was read is longer than a map may have positions
  pub read_small : (o : Opened) (fs : List (Vec (Vec (Vec Position A) A) A)) → IsOfRings o → o.polygons ≡ map feature_positions fs → each_small fs ≡ true
  read_small o fs is e =
      let all = rings_read o is ∙ ap (λ (ps : List Polygons). flat_map rings_within ps) e ∙ rings_held fs in
      small_features fs (omega (arith, is.small, ap (sum_by length) all))
