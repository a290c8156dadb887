-- The extent, as the loops come to it.
use Rattle.kit_words.proofs.Common.{◌≡◌, ℕ, ◌+◌, ◌-◌, ◌<◌, ◌≤◌, List, [], ◌∷◌, ◌++◌, length, get_or, take, drop, map, Vec}
use Rattle.kit_words.proofs.Common.{refl, sym, ap, ap₂, ◌∙◌, arith, ℤ, min, Option, Some, None, fold, flat_map, int_min}
use Rattle.kit_words.proofs.Common.{int_max, drop_all, take_min, take-map, flat_map-append, flat_map-map, fold-append}
use Rattle.grid_geometry.specs.Common.{Position, Box}
use Rattle.ring_machine.specs.Common.{positions}
use Rattle.topo_outline.specs.Common.{LayerText, leaves}
use Rattle.topo_outline.proofs.Common.{tail_at}
use Rattle.topo_reader.specs.Common.{Polygons, Opened, document_of, box_with, widened, extent_of, feature_corners}
use Rattle.topo_reader.specs.Common.{polygon_corners, positions_of}
use Rattle.topo_reader.proofs.Numbering.{rings_within, rings_document}

pub step : (r : Option Box) (ps : List Position) (i : ℕ) (p : Position) → i < length ps → p ≡ get_or ps i p → widened r (drop i ps) ≡ widened (Some (box_with r p)) (drop (i + 1) ps)
step r ps i p lt is = ap (λ (qs : List Position). widened r qs) (tail_at p ps i lt is)

pub end : (r : Option Box) (ps : List Position) (i : ℕ) → length ps ≤ i → widened r (drop i ps) ≡ r
end r ps i le = ap (λ (qs : List Position). widened r qs) (drop_all i ps le)

-- ---- the box that the loops come to is the extent

widened_some : (x0 y0 x1 y1 : ℤ) (ps : List Position) → widened (Some (record { x0 = x0; y0 = y0; x1 = x1; y1 = y1 })) ps ≡ Some (record {
  x0 = fold int_min x0 (map (λ q. q.x) ps);
  y0 = fold int_min y0 (map (λ q. q.y) ps);
  x1 = fold int_max x1 (map (λ q. q.x) ps);
  y1 = fold int_max y1 (map (λ q. q.y) ps);
})
widened_some x0 y0 x1 y1 [] = refl
widened_some x0 y0 x1 y1 (p ∷ ps) = widened_some (int_min x0 p.x) (int_min y0 p.y) (int_max x1 p.x) (int_max y1 p.y) ps

pub widened_none : (ps : List Position) → widened None ps ≡ extent_of ps
widened_none [] = refl
widened_none (p ∷ ps) = widened_some p.x p.y p.x p.y ps

abbrev joined : List (List Position) → List Position
joined rings = flat_map (λ ring. ring) rings

-- all positions of a list of parts, where a part is seen as its rings
module _ {X : Type 0} (v : X → Polygons) (g : X → List Position) (same : (x : X) → joined (rings_within (v x)) ≡ g x) where
  corners : (xs : List X) → joined (flat_map rings_within (map v xs)) ≡ flat_map g xs
  corners [] = refl
  corners (x ∷ xs) =
      flat_map-append (λ ring. ring) (rings_within (v x)) (flat_map rings_within (map v xs))
      ∙ ap₂ (λ (ps qs : List Position). ps ++ qs) (same x) (corners xs)

  -- the positions of the document are those of its first features, as many as it has leaves
  pub positions_document : (xs : List X) (layers : List LayerText) (o : Opened) → o.polygons ≡ map v xs → o.layers ≡ layers →
      positions (document_of o) ≡ flat_map g (take (length (leaves layers)) xs)
  positions_document xs layers o e f =
      ap joined (rings_document o.polygons o.layers)
      ∙ ap₂ (λ (ps : List Polygons) (ls : List LayerText). joined (flat_map rings_within (take (length (leaves ls)) ps))) e f
      ∙ ap (λ (ps : List Polygons). joined (flat_map rings_within ps)) (take-map v (length (leaves layers)) xs)
      ∙ corners (take (length (leaves layers)) xs)

  pub extent_document : (xs : List X) (layers : List LayerText) (o : Opened) (n : ℕ) → o.polygons ≡ map v xs → o.layers ≡ layers → n ≡ length xs - (length xs - length (leaves layers)) →
      widened None (flat_map g (take n xs)) ≡ extent_of (positions (document_of o))
  extent_document xs layers o n e f is =
      let least : n ≡ min (length (leaves layers)) (length xs) = omega (arith, is) in
      ap (λ (m : ℕ). widened None (flat_map g (take m xs))) least
      ∙ ap (λ (ys : List X). widened None (flat_map g ys)) (take_min (length (leaves layers)) xs)
      ∙ widened_none (flat_map g (take (length (leaves layers)) xs))
      ∙ ap extent_of (sym (positions_document xs layers o e f))

-- ---- the nested lists of the code

over : {X : Type 0} (g : X → List Position) (r : Option Box) (xs : List X) → fold (λ b x. widened b (g x)) r xs ≡ widened r (flat_map g xs)
over g r [] = refl
over g r (x ∷ xs) = over g (widened r (g x)) xs ∙ sym (fold-append (λ b p. Some (box_with b p)) r (g x) (flat_map g xs))

flat : {X Y Z : Type 0} (g : Y → List Z) (h : X → List Y) (xs : List X) → flat_map g (flat_map h xs) ≡ flat_map (λ x. flat_map g (h x)) xs
flat g h [] = refl
flat {Z = Z} g h (x ∷ xs) = flat_map-append g (h x) (flat_map h xs) ∙ ap (λ (zs : List Z). flat_map g (h x) ++ zs) (flat g h xs)

module _ {A : Type 0} where
  abbrev polygon_rings : Vec (Vec Position A) A → List (Vec Position A)
  polygon_rings p = p.items

  abbrev feature_polygons : Vec (Vec (Vec Position A) A) A → List (Vec (Vec Position A) A)
  feature_polygons f = f.items

  pub over_rings : (features : List (Vec (Vec (Vec Position A) A) A)) →
      fold (λ rect ring. widened rect ring.items) None (flat_map (λ polygon. polygon.items) (flat_map (λ polygons. polygons.items) features)) ≡ widened None (flat_map feature_corners features)
  over_rings features =
      over positions_of None (flat_map polygon_rings (flat_map feature_polygons features))
      ∙ ap (λ (ps : List Position). widened None ps) (flat positions_of polygon_rings (flat_map feature_polygons features) ∙ flat polygon_corners feature_polygons features)

pub polygon_joined : {X : Type 0} (v : X → List Position) (xs : List X) → joined (map v xs) ≡ flat_map v xs
polygon_joined v xs = flat_map-map (λ ring. ring) v xs

pub feature_joined : {X : Type 0} (v : X → List (List Position)) (g : X → List Position) → ((x : X) → joined (v x) ≡ g x) → (xs : List X) → joined (rings_within (map v xs)) ≡ flat_map g xs
feature_joined v g same [] = refl
feature_joined v g same (x ∷ xs) =
    flat_map-append (λ ring. ring) (v x) (rings_within (map v xs))
    ∙ ap₂ (λ (ps qs : List Position). ps ++ qs) (same x) (feature_joined v g same xs)
