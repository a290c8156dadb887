-- The segments of a map that come into an index one after another.
use Rattle.kit_words.proofs.Common.{◌≡◌, ◌∙◌, ℕ, ◌+◌, ◌<◌, ◌≤◌, Bool, true, false, cond, List, [], ◌∷◌, ◌++◌, ◌&&◌, ap, ap₂, sym, subst, refl}
use Rattle.kit_words.proofs.Common.{length, map, take, drop, get_or, flat_map, list_all, flat_map-append, list_all-append, and_parts, nat_le}
use Rattle.kit_words.proofs.Common.{append_assoc, append-nil, flat_mapped_more, next_drop, take_all, drop_of_length-le}
use Rattle.grid_geometry.specs.Common.{Position, Segment, links, position_eq}
use Rattle.ring_machine.specs.Common.{begins_least, first_pair, is_distinct, is_ring, least_conflict, segment_of, segments}
use Rattle.ring_machine.proofs.Common.{position_eq-refl, position_eq-true}
use Rattle.local_planarity.specs.Common.{IsFilled}
use Rattle.layer_sides.specs.Common.{Polygon, segments_in}
use Rattle.topo_reader.specs.Common.{IsOfRings, Opened, document_of}
use Rattle.walk_faults.specs.Common.{is_closed_ring, segment_at}
use Rattle.walk_faults.proofs.RingEdges.{ring_segments}
use Rattle.cover_report.specs.Filling.{Fills, feature_segments, polygon_segments}
use Rattle.cover_report.specs.Layers.{polygons_in}
use Rattle.cover_report.specs.declared.conflict.Filling.{Filling}
use Rattle.cover_report.proofs.ProperLayers.{all_rings, all_read}

-- ---- an edge

pub edge_apart : (a b : Position) (s : Segment) → (a ≡ b → ⊥) → s ≡ segment_of (a, b) → segment_at (a, b) ≡ s ∷ []
edge_apart a b s differ is = by (position_eq a b) refl ∙ ap (λ (t : Segment). t ∷ []) (sym is)
  where
    by : (t : Bool) → position_eq a b ≡ t → cond t [] (segment_of (a, b) ∷ []) ≡ segment_of (a, b) ∷ []
    by true e = absurd (differ (position_eq-true a b e))
    by false e = refl

pub edge_none : (a b : Position) → a ≡ b → segment_at (a, b) ≡ []
edge_none a b e =
    ap (λ t. cond {A = List Segment} t [] (segment_of (a, b) ∷ [])) (ap (λ p. position_eq p b) e ∙ position_eq-refl b)

-- ---- what came

module _ {A : Type 0} where
  pub fills_none : (f : Filling A) (xs : List Segment) → xs ≡ [] → Fills f xs f
  fills_none f xs none ss is =
      subst (λ (z : List Segment). IsFilled f.index f.first z) (sym (ap (λ z. ss ++ z) none ∙ append-nil ss)) is

  pub fills_both : (f g h : Filling A) (xs ys zs : List Segment) → Fills f xs g → Fills g ys h → zs ≡ xs ++ ys → Fills f zs h
  fills_both f g h xs ys zs before after e ss is =
      subst (λ (z : List Segment). IsFilled h.index h.first z) (append_assoc ss xs ys ∙ ap (λ z. ss ++ z) (sym e)) (after (ss ++ xs) (before ss is))

  pub fills_alike : (f g : Filling A) (xs ys : List Segment) → Fills f xs g → xs ≡ ys → Fills f ys g
  fills_alike f g xs ys fills e = subst (λ (z : List Segment). Fills f z g) e fills

  -- one more of a list
  pub one_came : {X Y : Type 0} (each : Y → List Segment) (of : X → Y) (xs : List X) (i : ℕ) (x : X) (y : Y) (f g h : Filling A) → i < length xs → x ≡ get_or xs i x
      → y ≡ of x → Fills f (flat_map each (map of (take i xs))) g → Fills g (each y) h → Fills f (flat_map each (map of (take (i + 1) xs))) h
  one_came each of xs i x y f g h l e same before after =
      fills_both f g h (flat_map each (map of (take i xs))) (each y) (flat_map each (map of (take (i + 1) xs))) before after
      (flat_mapped_more each of xs i x l e ∙ ap (λ z. flat_map each (map of (take i xs)) ++ each z) (sym same))

  pub all_came : {X Y : Type 0} (each : Y → List Segment) (of : X → Y) (xs : List X) (i : ℕ) (f g : Filling A) → length xs ≤ i
      → Fills f (flat_map each (map of (take i xs))) g → Fills f (flat_map each (map of xs)) g
  all_came each of xs i f g l fills =
      fills_alike f g (flat_map each (map of (take i xs))) (flat_map each (map of xs)) fills (ap (λ z. flat_map each (map of z)) (take_all i xs l))

-- ---- a way

-- the way from a position over others to the last one
abbrev pub way_segments : Position → List Position → Position → List Segment
way_segments from rest last = flat_map segment_at (links (from ∷ rest ++ last ∷ []))

-- one edge of a way less is left
pub way_step : (from to last : Position) (rest : List Position) (i : ℕ) → i < length rest → to ≡ get_or rest i to
    → way_segments from (drop i rest) last ≡ segment_at (from, to) ++ way_segments to (drop (i + 1) rest) last
way_step from to last rest i l e = ap (λ (z : List Position). way_segments from z last) (next_drop rest i to l e)

pub way_end : (from last : Position) (rest : List Position) (i : ℕ) → length rest ≤ i → segment_at (from, last) ≡ way_segments from (drop i rest) last
way_end from last rest i l =
    sym (append-nil (segment_at (from, last))) ∙ ap (λ (z : List Position). way_segments from z last) (sym (drop_of_length-le rest l))

-- ---- all segments of a map

closed_ring : (r : List Position) → is_ring r ≡ true → is_closed_ring r ≡ true
closed_ring r h =
    let k = and_parts (nat_le 3 (length r)) (is_distinct r && begins_least r) h in
    ap₂ (λ (a b : Bool). a && b) k.0 (and_parts (is_distinct r) (begins_least r) k.1).0

polygon_is : (p : Polygon) → list_all is_ring p ≡ true → polygon_segments p ≡ flat_map segments p
polygon_is [] h = refl
polygon_is (r ∷ rs) h =
    let k = and_parts (is_ring r) (list_all is_ring rs) h in
    ap₂ (λ (y z : List Segment). y ++ z) (ring_segments r (closed_ring r k.0)) (polygon_is rs k.1)

feature_is : (ps : List Polygon) → list_all (list_all is_ring) ps ≡ true → feature_segments ps ≡ segments_in ps
feature_is [] h = refl
feature_is (p ∷ ps) h =
    let k = and_parts (list_all is_ring p) (list_all (list_all is_ring) ps) h in
    ap₂ (λ (y z : List Segment). y ++ z) (polygon_is p k.0) (feature_is ps k.1)

features_are : (fs : List (List Polygon)) → list_all (list_all is_ring) (polygons_in fs) ≡ true
    → flat_map feature_segments fs ≡ segments_in (polygons_in fs)
features_are [] h = refl
features_are (f ∷ fs) h =
    let k = and_parts (list_all (list_all is_ring) f) (list_all (list_all is_ring) (polygons_in fs))
    (sym (list_all-append (list_all is_ring) f (polygons_in fs)) ∙ h) in
    ap₂ (λ (y z : List Segment). y ++ z) (feature_is f k.0) (features_are fs k.1) ∙ sym (flat_map-append (flat_map segments) f (polygons_in fs))

-- one feature more came
pub feature_came : {A X : Type 0} (of : X → List Polygon) (xs : List X) (i : ℕ) (x : X) (y : List Polygon) (f g : Filling A) → i < length xs → x ≡ get_or xs i x → y ≡ of x
    → IsFilled f.index f.first (flat_map feature_segments (map of (take i xs))) → Fills f (feature_segments y) g
    → IsFilled g.index g.first (flat_map feature_segments (map of (take (i + 1) xs)))
feature_came of xs i x y f g l e same before after =
    subst (λ (z : List Segment). IsFilled g.index g.first z)
    (sym (flat_mapped_more feature_segments of xs i x l e ∙ ap (λ z. flat_map feature_segments (map of (take i xs)) ++ feature_segments z) (sym same)))
    (after (flat_map feature_segments (map of (take i xs))) before)

-- where they all came, the least pair of the map is known
pub pair_found : {A : Type 0} (o : Opened) → IsOfRings o → (f : Filling A) → IsFilled f.index f.first (flat_map feature_segments o.polygons)
    → first_pair (document_of o) ≡ f.first
unfolding first_pair
pair_found o is f filled =
    ap least_conflict (all_read o is ∙ sym (features_are o.polygons (all_rings o is))) ∙ filled.first
