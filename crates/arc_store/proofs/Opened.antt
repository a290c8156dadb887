-- A map that was opened: its tables belong together, and mean what was read.
use Rattle.kit_words.proofs.Common.{◌≡◌, ◌≤◌, ℕ, true, refl, sym, ap, ap₂, ◌∙◌, subst, map, List, [], ◌∷◌, length}
use Rattle.kit_words.proofs.Common.{arith, Option, Some, None, Contains, is_some, option_map, unwrap_or, Vec, list_all}
use Rattle.kit_words.proofs.Common.{flat_map, sum_by, false≢true, length-map, take_all, map-map}
use Rattle.std.specs.FinMap as table
use Rattle.grid_geometry.specs.Common.{Position, Segment}
use Rattle.ring_machine.specs.Common.{canonical, is_ring, segments, rings, size, features, Proper, first_pair}
use Rattle.ring_machine.specs.Common.{least_conflict, DocumentOf, are_distinct, WellFormed}
use Rattle.ring_machine.proofs.Common.{formed-before_rings, contains_in, in-map, all_in}
use Rattle.topo_outline.specs.Common.{KeepsTexts, values, view_kept}
use Rattle.topo_outline.specs.Outline.{leaves}
use Rattle.topo_outline.proofs.Common.{keeps-before_rings}
use Rattle.topo_reader.specs.Common.{IsOfRings, view_raw, polygon_positions, feature_positions}
use Rattle.topo_reader.specs.Document as read
use Rattle.topo_reader.specs.declared.document.RawDoc.{RawDoc}
use Rattle.topo_reader.proofs.Common.{rings_document}
use Rattle.vertex_index.specs.Common.{Placement, place}
use Rattle.arc_tables.specs.Common.{Edge, begins}
use Rattle.ring_store.specs.Common.{ring_in}
use Rattle.ring_store.specs.declared.tables.RingTables.{RingTables}
use Rattle.map_opening.specs.Common.{rings_of_features, shape_of, ring_count, IsFlat, numbers_seen}
use Rattle.ring_parts.specs.Common.{rings_seen}
use Rattle.map_opening.specs.Opened.{AreOpened}
use Rattle.map_opening.proofs.FlatLists.{length-all_rings}
use Rattle.map_opening.proofs.NestedLists.{put_again}
use Rattle.map_frame.specs.Common.{Framed, polygon_numbers, feature_numbers, CanStand}
use Rattle.map_frame.specs.Opened as frame
use Rattle.map_frame.proofs.BuiltAlike.{lengths_of}
use Rattle.arc_store.proofs.Standing.{can_stand}
use Rattle.map_frame.proofs.BuiltNumbers.{layers_length}
use Rattle.feature_exchange.specs.Common.{Holds, stored_in, Stored, ring_under, stored_document}
use Rattle.feature_exchange.proofs.Whole.{map_holds}
use Rattle.arc_store.specs.Common.{IsKept}
use Rattle.arc_store.proofs.AllCanonical.{all_canonical}
use Rattle.arc_store.proofs.FramedDocument.{read_framed}
use Rattle.arc_store.proofs.FrameReads.{feature_count-in_rings}

-- how many elements each list has, whatever they are
counts : {X Y : Type 0} (f : X → Y) (xss : List (List X)) → map length (map (map f) xss) ≡ map length xss
counts f [] = refl
counts f (xs ∷ xss) = ap₂ (λ (y : ℕ) (z : List ℕ). y ∷ z) (length-map xs f) (counts f xss)

-- a ring stands where its positions are those of one
ring_there : (places : Placement) (o : Option (List Edge))
    → is_ring (map (place places) (begins (unwrap_or o []))) ≡ true → is_some o ≡ true
ring_there places (Some es) h = refl
ring_there places None h = absurd (false≢true h)

-- ---- what was read

module _ {A : Type 0} (raw : RawDoc A) (h : IsOfRings (view_raw raw)) {given all : List (Vec Position A)} {shape : List (List ℕ)}
    (same : given ≡ all) (flat : IsFlat (view_raw raw).polygons shape (rings_seen all)) where
  read_rings : rings (read.document_of (view_raw raw)) ≡ rings_seen given
  read_rings =
      let o = view_raw raw in
      rings_document o.polygons o.layers ∙ ap rings_of_features (take_all (length (leaves o.layers)) o.polygons (omega (arith, h.counted)))
      ∙ flat.all ∙ ap rings_seen (sym same)

  pub read_are_rings : list_all is_ring (rings_seen given) ≡ true
  read_are_rings = ap (list_all is_ring) (sym read_rings) ∙ h.are_rings

  pub read_small : sum_by length (rings_seen given) ≤ 4000000
  read_small = omega (arith, ap (sum_by length) read_rings, h.small)

  module _ {I : Type 0} {numbers : List ℕ} {t : RingTables I A} {first : Option (Segment × Segment)} {positions : ℕ}
      (opened : AreOpened (rings_seen given) numbers t first positions) where
    -- the first pair of what was read
    pub opened_pair : first_pair (read.document_of (view_raw raw)) ≡ first
    unfolding first_pair
    opened_pair = ap (λ z. least_conflict (flat_map segments z)) read_rings ∙ opened.first

    -- there are as many numbers as rings of the shape
    pub numbers_fit : {shape' : List (List ℕ)} {numbers' : List ℕ} → numbers' ≡ numbers → shape' ≡ shape
        → ring_count shape' ≡ length numbers'
    numbers_fit e f =
        ap ring_count f ∙ ap ring_count (sym flat.alike) ∙ sym (length-all_rings (view_raw raw).polygons)
        ∙ ap length (flat.all ∙ ap rings_seen (sym same) ∙ sym opened.at) ∙ length-map numbers (ring_in t) ∙ ap length (sym e)

module _ {I A : Type 0} (raw : RawDoc A) (h : IsOfRings (view_raw raw)) {given all : List (Vec Position A)} {shape shape' : List (List ℕ)}
    (same : given ≡ all) (flat : IsFlat (view_raw raw).polygons shape (rings_seen all))
    {numbers numbers' : List ℕ} {t : RingTables I A} {first : Option (Segment × Segment)} {positions : ℕ}
    (opened : AreOpened (rings_seen given) numbers t first positions) (polygons : List (Vec (Vec ℕ A) A))
    (same_numbers : numbers' ≡ numbers) (same_shape : shape' ≡ shape) (again : IsFlat (numbers_seen polygons) shape' numbers') where
  abbrev o : read.Opened
  o = view_raw raw

  alike : shape_of (numbers_seen polygons) ≡ shape_of o.polygons
  alike = again.alike ∙ same_shape ∙ sym flat.alike

  -- each feature has as many polygons of numbers as were read
  numbers_alike : map (λ n. length n.items) polygons ≡ map (λ f. length f.items) raw.polygons.items
  numbers_alike =
      sym (lengths_of feature_numbers (λ n. length n.items) (λ n. length-map n.items polygon_numbers) polygons)
      ∙ sym (counts length (numbers_seen polygons)) ∙ ap (map length) alike ∙ counts length o.polygons
      ∙ lengths_of feature_positions (λ f. length f.items) (λ f. length-map f.items polygon_positions) raw.polygons.items

  pub opened_stands : CanStand (option_map (λ t. t.now) raw.transform) (values raw.layers) (map view_kept raw.members.items) polygons
  opened_stands = can_stand raw polygons h numbers_alike

  -- the frame of what was read, with numbers in the place of rings
  abbrev read_frame : DocumentOf ℕ
  read_frame = frame.opened (option_map (λ t. t.now) raw.transform) (values raw.layers) (map view_kept raw.members.items) polygons

  abbrev opened_map : Stored
  opened_map = record { frame = read_frame; rings = t.borders; places = t.vertices }

  -- the map means what was read
  opened_document : stored_document opened_map ≡ read.document_of o
  opened_document =
      read_framed (ring_under opened_map) o (numbers_seen polygons)
      (put_again (ring_under opened_map) o.polygons (numbers_seen polygons) alike
      (ap (map (ring_under opened_map)) (again.all ∙ same_numbers) ∙ sym (map-map canonical (ring_in t) numbers)
      ∙ ap (map canonical) opened.at ∙ all_canonical (rings_seen given) (read_are_rings raw h same flat)
      ∙ ap rings_seen same ∙ sym flat.all))

  opened_rings : rings read_frame ≡ numbers
  opened_rings =
      rings_document (numbers_seen polygons) o.layers
      ∙ ap (λ (ps : List (List (List ℕ))). rings_of_features ps) (take_all (length (leaves o.layers)) (numbers_seen polygons) (omega (arith, opened_stands.counted, length-map polygons (feature_numbers {A = A}))))
      ∙ again.all ∙ same_numbers

  -- a ring stands under each number
  number_there : (r : ℕ) → Contains numbers r → is_some (table.get t.borders r) ≡ true
  number_there r c =
      ring_there t.vertices (table.get t.borders r)
      (all_in is_ring (map (ring_in t) numbers) (ring_in t r)
      (ap (list_all is_ring) opened.at ∙ read_are_rings raw h same flat)
      (in-map (ring_in t) r numbers (contains_in numbers r c)))

  opened_holds : first ≡ None → Holds opened_map t.index.held
  opened_holds none =
      map_holds opened_map t.index.held opened.stand
      (λ r. (λ c. number_there r (subst (λ z. Contains z r) opened_rings c), λ i. subst (λ z. Contains z r) (sym opened_rings) (opened.only r i)))
      (ap are_distinct opened_rings ∙ opened.once)
      (formed-before_rings (ring_under opened_map) read_frame (subst WellFormed (sym opened_document) h.formed))
      (keeps-before_rings (ring_under opened_map) read_frame (subst KeepsTexts (sym opened_document) h.keeps))
      (subst Proper (sym opened_document) (record {
        are_rings = h.are_rings;
        apart = opened_pair raw h same flat opened ∙ none;
      }))
      (subst (λ d. size d ≤ 4000000) (sym opened_document) h.small)

  opened_size : positions ≡ size (stored_document opened_map)
  opened_size = opened.size ∙ ap (sum_by length) (sym (read_rings raw h same flat)) ∙ ap size (sym opened_document)

  -- ---- the map

  module _ (framed : Framed) (is : framed.doc ≡ read_frame) where
    -- the map means what was read
    pub map_document : stored_document (stored_in framed t) ≡ read.document_of o
    map_document = ap (λ d. stored_document (record { frame = d; rings = t.borders; places = t.vertices })) is ∙ opened_document

    -- it has as many features as lists of polygons
    pub map_features : length (features (stored_document (stored_in framed t))) ≡ length polygons
    map_features =
        feature_count-in_rings (ring_under (stored_in framed t)) framed.doc
        ∙ ap (λ d. length (features d)) is ∙ layers_length 0 (numbers_seen polygons) o.layers ∙ sym opened_stands.counted

    pub map_kept : first ≡ None → IsKept framed t.borders t.vertices t.index.held positions
    map_kept none = record {
      holds = subst (λ d. Holds (record { frame = d; rings = t.borders; places = t.vertices }) t.index.held) (sym is) (opened_holds none);
      sized = opened_size ∙ ap (λ d. size (stored_document (record { frame = d; rings = t.borders; places = t.vertices }))) (sym is);
    }

    pub map_proper : first ≡ None → Proper (stored_document (stored_in framed t))
    map_proper none = (map_kept none).holds.proper
