-- The polygons of a document whose segments do not conflict are those of a proper layer, and so are some of them.
use Rattle.kit_words.proofs.Common.{◌≡◌, ◌∙◌, ℕ, Bool, true, List, [], ◌∷◌, ◌++◌, ◌&&◌, ap, ap₂, sym, subst, refl, arith, length, take, drop}
use Rattle.kit_words.proofs.Common.{None, false, false≢true, false_from_ne_true, Contains, flat_map, list_all, flat_map-append, list_all-append, take_all, take-append-drop, and_parts}
use Rattle.kit_words.proofs.Common.{Contains-append_left, Contains-append_right}
use Rattle.grid_geometry.specs.Common.{Position, Segment, conflict, segment_lt}
use Rattle.ring_machine.specs.Common.{Proper, all_segments, first_pair, is_ring, least_conflict, rings, segments}
use Rattle.ring_machine.proofs.Common.{contains_in}
use Rattle.ring_machine.proofs.Fewer.{none_bad}
use Rattle.ring_machine.proofs.Common.{In, segment_ordered}
use Rattle.grid_geometry.proofs.Common.{conflict-comm, conflict-same}
use Rattle.topo_outline.specs.Common.{leaves}
use Rattle.topo_reader.specs.Common.{IsOfRings, Opened, document_of}
use Rattle.topo_reader.proofs.Common.{rings_document, rings_within}
use Rattle.layer_sides.specs.Common.{IsProperLayer, Polygon, segments_in}
use Rattle.cover_report.specs.Layers.{polygons_in}

-- ---- all segments, and a test of all rings

joined_segments : (polygons : List Polygon) → segments_in polygons ≡ flat_map segments (rings_within polygons)
joined_segments [] = refl
joined_segments (p ∷ polygons) =
    ap (λ (z : List Segment). flat_map segments p ++ z) (joined_segments polygons) ∙ sym (flat_map-append segments p (rings_within polygons))

segments_within : (features : List (List Polygon)) → segments_in (polygons_in features) ≡ flat_map segments (flat_map rings_within features)
segments_within [] = refl
segments_within (f ∷ features) =
    flat_map-append (flat_map segments) f (polygons_in features)
    ∙ ap₂ (λ (y z : List Segment). y ++ z) (joined_segments f) (segments_within features)
    ∙ sym (flat_map-append segments (rings_within f) (flat_map rings_within features))

all_joined : (test : List Position → Bool) (polygons : List Polygon) → list_all (list_all test) polygons ≡ list_all test (rings_within polygons)
all_joined test [] = refl
all_joined test (p ∷ polygons) = ap (λ (b : Bool). list_all test p && b) (all_joined test polygons) ∙ sym (list_all-append test p (rings_within polygons))

all_within : (test : List Position → Bool) (features : List (List Polygon))
    → list_all (list_all test) (polygons_in features) ≡ list_all test (flat_map rings_within features)
all_within test [] = refl
all_within test (f ∷ features) =
    list_all-append (list_all test) f (polygons_in features)
    ∙ ap₂ (λ (a b : Bool). a && b) (all_joined test f) (all_within test features)
    ∙ sym (list_all-append test (rings_within f) (flat_map rings_within features))

-- ---- a document

rings_read : (o : Opened) → IsOfRings o → rings (document_of o) ≡ flat_map rings_within o.polygons
rings_read o is =
    rings_document o.polygons o.layers
    ∙ ap (λ (fs : List (List Polygon)). flat_map rings_within fs) (take_all (length (leaves o.layers)) o.polygons (omega (arith, is.counted)))

-- the segments of the document are those of all polygons
pub all_read : (o : Opened) → IsOfRings o → all_segments (document_of o) ≡ segments_in (polygons_in o.polygons)
all_read o is =
    ap (λ (z : List (List Position)). flat_map segments z) (rings_read o is) ∙ sym (segments_within o.polygons)

pub all_rings : (o : Opened) → IsOfRings o → list_all (list_all is_ring) (polygons_in o.polygons) ≡ true
all_rings o is = all_within is_ring o.polygons ∙ ap (list_all is_ring) (sym (rings_read o is)) ∙ is.are_rings

none_conflict : (ss : List Segment) → least_conflict ss ≡ None → (s t : Segment) → In s ss → In t ss → conflict s t ≡ false
none_conflict ss h s t i j = false_from_ne_true _ (λ e.
    let f : segment_lt s t ≡ false = false_from_ne_true _ (λ f. none_bad ss h (s, t) (record { order = f; left = i; right = j; meet = e })) in
    let g : segment_lt t s ≡ false = false_from_ne_true _ (λ g. none_bad ss h (t, s) (record { order = g; left = j; right = i; meet = conflict-comm t s ∙ e })) in
    false≢true (sym (ap (conflict s) (sym (segment_ordered.total s t f g)) ∙ conflict-same s) ∙ e))

pub proper_layer : (o : Opened) → IsOfRings o → Proper (document_of o) → IsProperLayer (polygons_in o.polygons)
unfolding first_pair
proper_layer o is proper =
    let there : (s : Segment) → Contains (segments_in (polygons_in o.polygons)) s → In s (all_segments (document_of o)) =
    λ s h. contains_in (all_segments (document_of o)) s (subst (λ (z : List Segment). Contains z s) (sym (all_read o is)) h) in
    record {
      are_rings = all_rings o is;
      apart = λ s t i j. none_conflict (all_segments (document_of o)) proper.apart s t (there s i) (there t j);
    }

-- ---- some of the polygons

proper_first : (ps qs : List Polygon) → IsProperLayer (ps ++ qs) → IsProperLayer ps
proper_first ps qs h =
    let split = flat_map-append (flat_map segments) ps qs in
    let among : (s : Segment) → Contains (segments_in ps) s → Contains (segments_in (ps ++ qs)) s =
    λ s i. subst (λ (z : List Segment). Contains z s) (sym split) (Contains-append_left (segments_in ps) (segments_in qs) s i) in
    record {
      are_rings = (and_parts _ _ (sym (list_all-append (list_all is_ring) ps qs) ∙ h.are_rings)).0;
      apart = λ s t i j. h.apart s t (among s i) (among t j);
    }

proper_last : (ps qs : List Polygon) → IsProperLayer (ps ++ qs) → IsProperLayer qs
proper_last ps qs h =
    let split = flat_map-append (flat_map segments) ps qs in
    let among : (s : Segment) → Contains (segments_in qs) s → Contains (segments_in (ps ++ qs)) s =
    λ s i. subst (λ (z : List Segment). Contains z s) (sym split) (Contains-append_right (segments_in ps) (segments_in qs) s i) in
    record {
      are_rings = (and_parts _ _ (sym (list_all-append (list_all is_ring) ps qs) ∙ h.are_rings)).1;
      apart = λ s t i j. h.apart s t (among s i) (among t j);
    }

taken_apart : (k : ℕ) (features : List (List Polygon)) → polygons_in features ≡ polygons_in (take k features) ++ polygons_in (drop k features)
taken_apart k features =
    ap polygons_in (sym (take-append-drop k features)) ∙ flat_map-append (λ polygons. polygons) (take k features) (drop k features)

pub proper_taken : (k : ℕ) (features : List (List Polygon)) → IsProperLayer (polygons_in features) → IsProperLayer (polygons_in (take k features))
proper_taken k features h = proper_first (polygons_in (take k features)) (polygons_in (drop k features)) (subst IsProperLayer (taken_apart k features) h)

pub proper_left : (k : ℕ) (features : List (List Polygon)) → IsProperLayer (polygons_in features) → IsProperLayer (polygons_in (drop k features))
proper_left k features h = proper_last (polygons_in (take k features)) (polygons_in (drop k features)) (subst IsProperLayer (taken_apart k features) h)
