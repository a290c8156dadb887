-- The arcs so far, on their way to those of the document.
use Rattle.kit_words.proofs.Common.{◌≡◌, ℕ, Bool, subst, ◌+◌, ◌≤◌, refl, sym, ap, ap₂, ◌∙◌, List, [], ◌∷◌, ◌++◌, map}
use Rattle.kit_words.proofs.Common.{length, arith, append_assoc, Some, option_map, unwrap_or, flat_map, filter_map}
use Rattle.kit_words.proofs.Common.{sum_by, AllByRecursion, append-nil, flat_map-append, filter_map-append}
use Rattle.kit_words.proofs.Common.{sum_by-append, all_front, all_back}
use Rattle.grid_geometry.specs.Common.{Position}
use Rattle.ring_machine.specs.Common.{Document, Feature, Item, Leaf, Layer, feature, feature_of, rings, rings_of}
use Rattle.ring_machine.specs.Common.{in_feature, size, is_junction}
use Rattle.map_text.specs.Common.{arcs_of, indexes, pieces, with_pieces}
use Rattle.map_text.proofs.Common.{all_arcs}
use Rattle.topo_writer.specs.Common.{feature_or_bare, item_rings, LeadsOn, all_rings_at}
use Rattle.topo_writer.proofs.Later.{with_pieces-append}
use Rattle.topo_writer.proofs.LaterParts.{Known, rings_same, rings_few}

pub item_rings-append : (xs ys : List Item) → item_rings (xs ++ ys) ≡ item_rings xs ++ item_rings ys
item_rings-append xs ys =
    ap (flat_map rings_of) (filter_map-append feature_of xs ys)
    ∙ flat_map-append rings_of (filter_map feature_of xs) (filter_map feature_of ys)

-- the rings of these items, of others and of later ones
both_rings : (xs ys : List Item) (later : List (List Position))
    → item_rings (xs ++ ys) ++ later ≡ item_rings xs ++ (item_rings ys ++ later)
both_rings xs ys later = ap (λ z. z ++ later) (item_rings-append xs ys) ∙ append_assoc (item_rings xs) (item_rings ys) later

module _ (d : Document) where
  -- of the items that are left, the first ones alone
  pub leads_first : (arcs : List (List Position)) (xs ys : List Item) → LeadsOn d arcs (xs ++ ys) → LeadsOn d arcs xs
  leads_first arcs xs ys h = record {
    later = item_rings ys ++ h.later;
    few = omega (arith, h.few, ap (sum_by length) (both_rings xs ys h.later));
    whole = h.whole ∙ ap (λ z. with_pieces arcs (flat_map (pieces (is_junction d)) z)) (both_rings xs ys h.later);
  }

  -- the first items have been written
  pub leads_off : (arcs next : List (List Position)) (xs ys : List Item) → LeadsOn d arcs (xs ++ ys)
      → next ≡ with_pieces arcs (flat_map (pieces (is_junction d)) (item_rings xs)) → LeadsOn d next ys
  leads_off arcs next xs ys h e =
      let j = is_junction d in
      let mine = item_rings xs in
      let rest = item_rings ys ++ h.later in
      let both = both_rings xs ys h.later in
      record {
        later = h.later;
        few = omega (arith, h.few, ap (sum_by length) both, sum_by-append length mine rest, ap length e, rings_few j arcs mine);
        whole =
            h.whole ∙ ap (λ z. with_pieces arcs (flat_map (pieces j) z)) both
            ∙ ap (with_pieces arcs) (flat_map-append (pieces j) mine rest)
            ∙ with_pieces-append j arcs arcs (flat_map (pieces j) mine) (flat_map (pieces j) rest)
            ∙ ap (λ z. with_pieces z (flat_map (pieces j) rest)) (sym e);
      }

  layers_items : (layers : List Layer) → filter_map feature_of (flat_map (λ l. l.items) layers) ≡ flat_map (λ l. filter_map feature_of l.items) layers
  layers_items [] = refl
  layers_items (l ∷ layers) =
      filter_map-append feature_of l.items (flat_map (λ k. k.items) layers)
      ∙ ap (λ z. filter_map feature_of l.items ++ z) (layers_items layers)

  -- no arc leads on to all layers
  pub leads_begin : size d ≤ 4000000 → LeadsOn d [] (flat_map (λ l. l.items) d.layers)
  leads_begin small =
      let all : item_rings (flat_map (λ l. l.items) d.layers) ++ [] ≡ rings d = append-nil _ ∙ ap (flat_map rings_of) (layers_items d.layers) in
      record {
        later = [];
        few = omega (arith, small, ap (sum_by length) all);
        whole = ap (λ z. with_pieces [] (flat_map (pieces (is_junction d)) z)) (sym all);
      }

module _ (j : Position → Bool) where
  polygons_same : (arcs more : List (List Position)) (polygons : List (List (List Position)))
      → AllByRecursion (Known arcs) (flat_map (pieces j) (flat_map (λ polygon. polygon) polygons))
      → map (map (indexes j (with_pieces arcs more))) polygons ≡ map (map (indexes j arcs)) polygons
  polygons_same arcs more [] h = refl
  polygons_same arcs more (p ∷ ps) h =
      let k = subst (AllByRecursion (Known arcs)) (flat_map-append (pieces j) p (flat_map (λ polygon. polygon) ps)) h in
      ap₂ (λ y z. y ∷ z) (rings_same j arcs more p (all_front (Known arcs) (flat_map (pieces j) p) (flat_map (pieces j) (flat_map (λ polygon. polygon) ps)) k))
      (polygons_same arcs more ps (all_back (Known arcs) (flat_map (pieces j) p) (flat_map (pieces j) (flat_map (λ polygon. polygon) ps)) k))

  feature_same : (arcs more : List (List Position)) (f : Feature) → AllByRecursion (Known arcs) (flat_map (pieces j) (rings_of f))
      → in_feature (indexes j (with_pieces arcs more)) f ≡ in_feature (indexes j arcs) f
  feature_same arcs more f h = ap (λ z. record (in_feature (indexes j arcs) f) { polygons = z }) (polygons_same arcs more f.polygons h)

-- a feature is written with the arcs after it as with those of the document
pub feature_whole : (d : Document) (arcs next : List (List Position)) (f : Feature) → LeadsOn d arcs (Leaf f ∷ [])
    → next ≡ with_pieces arcs (flat_map (pieces (is_junction d)) (rings_of f))
    → in_feature (indexes (is_junction d) next) f ≡ in_feature (indexes (is_junction d) (arcs_of d)) f
feature_whole d arcs next f h e =
    let j = is_junction d in
    let mine = flat_map (pieces j) (rings_of f) in
    let after = with_pieces arcs mine in
    let rest = flat_map (pieces j) h.later in
    let whole : arcs_of d ≡ with_pieces after rest =
    h.whole ∙ ap (λ z. with_pieces arcs (flat_map (pieces j) (z ++ h.later))) (append-nil (rings_of f))
    ∙ ap (with_pieces arcs) (flat_map-append (pieces j) (rings_of f) h.later)
    ∙ with_pieces-append j arcs arcs mine rest in
    ap (λ z. in_feature (indexes j z) f) e
    ∙ sym (feature_same j after rest f (all_arcs arcs mine))
    ∙ ap (λ z. in_feature (indexes j z) f) (sym whole)

-- the rings of a feature by its number
rings_by_number : (d : Document) (n : ℕ) → feature d n ≡ Some (feature_or_bare d n) → all_rings_at d n ≡ rings_of (feature_or_bare d n)
rings_by_number d n e = ap (λ o. flat_map (λ polygon. polygon) (unwrap_or (option_map (λ f. f.polygons) o) [])) e

-- the arcs after a feature
pub leaf_rings : (d : Document) (n : ℕ) (next arcs : List (List Position)) → feature d n ≡ Some (feature_or_bare d n)
    → next ≡ with_pieces arcs (flat_map (pieces (is_junction d)) (all_rings_at d n))
    → next ≡ with_pieces arcs (flat_map (pieces (is_junction d)) (rings_of (feature_or_bare d n)))
leaf_rings d n next arcs e h = h ∙ ap (λ z. with_pieces arcs (flat_map (pieces (is_junction d)) z)) (rings_by_number d n e)

-- there is room for its arcs
pub leaf_few : (d : Document) (arcs : List (List Position)) (n : ℕ) → feature d n ≡ Some (feature_or_bare d n) → LeadsOn d arcs (Leaf (feature_or_bare d n) ∷ [])
    → length arcs + sum_by length (all_rings_at d n) ≤ 4000000
leaf_few d arcs n e h =
    let mine = rings_of (feature_or_bare d n) in
    omega (
      arith,
      h.few,
      ap (sum_by length) (rings_by_number d n e),
      ap (sum_by length) (ap (λ z. z ++ h.later) (append-nil mine)),
      sum_by-append length mine h.later,
    )
