-- The tables that were built belong together.
use Rattle.kit_words.proofs.Common.{◌≡◌, ◌∙◌, ℕ, refl, sym, ap, ap₂, subst, arith, List, [], length, map, Option, Some}
use Rattle.kit_words.proofs.Common.{option_map, Contains, Vec, slice_get, flat_map, length-map, slice_get_within}
use Rattle.std.proofs.Common.{append-nil}
use Rattle.ring_machine.specs.Common.{DocumentOf, LayerOf, empty_collection, features, WellFormed}
use Rattle.std.specs.Vec.Iter.{into_iter_items}
use Rattle.map_frame.specs.declared.building.Gathered.{Gathered}
use Rattle.map_frame.specs.Common.{feature_numbers, Feature, Stand, Layer, RingName, Tables, Progress, progress}
use Rattle.map_frame.specs.Common.{AreLayers, numbers_under, all_numbers, StandsAt, IsFramed, number_at, AreNamed}
use Rattle.map_frame.specs.Common.{number_among, AllNamed, opened, CanStand, element, items_at, doc_of}
use Rattle.topo_outline.specs.Common.{view_kept}
use Rattle.topo_outline.specs.Views as read
use Rattle.topo_outline.specs.declared.document.RawLayer.{RawLayer}
use Rattle.map_frame.proofs.Built.{Whole, Waits, Came, all_leaves, came_layers}
use Rattle.map_frame.proofs.BuiltFrames.{layers_seen, layers_standing, layers_enclosed}
use Rattle.map_frame.proofs.BuiltNumbers.{from_distinct, from_below, layers_length, polygons_found}

-- nothing was built so far
abbrev pub begin : {A : Type 0} → List (Vec (Vec ℕ A) A) → Progress A
begin polygons = record { features = []; stands = []; waiting = polygons }

-- the tables so far
abbrev pub so_far : {A : Type 0} → Tables A → List (Vec (Vec ℕ A) A) → Progress A
so_far t left = record { features = t.features.items; stands = t.stands.items; waiting = left }

-- layers that were built from empty lists
pub laid_from : {A : Type 0} (raws : List (RawLayer A)) (layers : List (Layer A)) (g : Gathered A)
    (polygons : List (Vec (Vec ℕ A) A)) (end : Progress A) → g.features.items ≡ [] → g.stands.items ≡ []
    → into_iter_items g.waiting ≡ polygons → AreLayers 0 raws layers (progress g) end
    → AreLayers 0 raws layers (begin polygons) end
laid_from raws layers g polygons end e f w h =
    subst (λ p. AreLayers 0 raws layers p end)
    (ap₂ (λ fs ss. record { features = fs; stands = ss; waiting = into_iter_items g.waiting }) e f ∙ ap begin w) h

module _ {A : Type 0} (t : Tables A) (raws : List (RawLayer A)) (polygons left : List (Vec (Vec ℕ A) A))
    (built : AreLayers 0 raws t.layers.items (begin polygons) (so_far t left)) where
  abbrev all : List (List (List ℕ))
  all = map feature_numbers polygons

  abbrev what_was_read : DocumentOf ℕ
  what_was_read = opened (option_map (λ x. x.now) t.transform) raws (map view_kept t.members.items) polygons

  whole : Whole t.features.items t.stands.items (so_far t left)
  whole = record {
    more = [];
    whole = sym (append-nil t.features.items);
    more_stands = [];
    whole_stands = sym (append-nil t.stands.items);
  }

  waits : Waits polygons (begin polygons)
  waits = record { waits = refl }

  abbrev with_layers : List (LayerOf ℕ) → DocumentOf ℕ
  with_layers layers = record {
    transform = option_map (λ x. x.now) t.transform;
    layers = layers;
    members = map view_kept t.members.items;
  }

  came : Came (all_leaves raws) (all_numbers t.layers.items) (begin polygons) (so_far t left)
  came = came_layers 0 raws t.layers.items (begin polygons) (so_far t left) built

  -- they mean what was read
  pub tables_seen : doc_of t ≡ what_was_read
  tables_seen =
      ap with_layers (layers_seen t.features.items t.stands.items polygons 0 raws t.layers.items (begin polygons) (so_far t left) built whole waits)

  module _ (stand : CanStand (option_map (λ x. x.now) t.transform) raws (map view_kept t.members.items) polygons) where
    -- there are as many features as lists of polygons
    pub as_many : length t.features.items ≡ length polygons
    as_many = omega (arith, came.more, stand.counted)

    features_counted : length (features (doc_of t)) ≡ length t.features.items
    features_counted =
        ap (λ d. length (features d)) tables_seen ∙ layers_length 0 all (map read.view_layer raws) ∙ sym stand.counted ∙ sym as_many

    -- and each stands somewhere
    stood : length t.stands.items ≡ length t.features.items
    stood = omega (arith, came.more, came.stood)

    stands : (n : ℕ) (x : Stand) → slice_get t.stands.items n ≡ Some x → StandsAt t.layers.items n x
    stands n x got =
        let within = slice_get_within t.stands.items n x got in
        let k = layers_standing t.features.items t.stands.items n x got 0 raws t.layers.items (begin polygons) (so_far t left) built whole (omega arith)
        (omega (arith, within, stood)) in
        let place : k.0 ≡ x.layer = omega (arith, k.1) in
        subst (λ j. Contains (numbers_under (slice_get t.layers.items j) x.slot) n) place k.2

    same_number : (name : RingName) → number_at (doc_of t) name ≡ number_among all name
    same_number name =
        ap (λ d. number_at d name) tables_seen
        ∙ ap (λ o. element (element o name.polygon) name.ring)
        (polygons_found all (map read.view_layer raws) (length-map polygons feature_numbers ∙ stand.counted) name.feature)

    all_named : AllNamed t.names.items all → AreNamed t.names.items (doc_of t)
    all_named h = record {
      each = λ r name e. h.each r name (sym (same_number name) ∙ e);
      right = λ r name e. same_number name ∙ h.right r name e;
    }

    pub tables_framed : AllNamed t.names.items all → t.count ≡ length t.features.items
        → ((features : List (Option (Feature A))) → flat_map (items_at features) t.empty.items ≡ empty_collection)
        → IsFramed t
    tables_framed named counted empty = record {
      formed = subst (λ d. WellFormed d) (sym tables_seen) stand.formed;
      enclosed = layers_enclosed 0 0 all raws t.layers.items (begin polygons) (so_far t left) built stand.formed.geometries;
      once = from_distinct 0 (length t.features.items) (all_numbers t.layers.items) came.numbers;
      below = from_below 0 (length t.features.items) (all_numbers t.layers.items) came.numbers;
      alike = stood;
      standing = stands;
      counted = counted ∙ sym features_counted;
      few = omega (arith, as_many, stand.few);
      named = all_named named;
      empty = empty;
    }
