-- The boxes of rings: what one ring more brings, of a polygon, of a feature, and of a map.
use Rattle.kit_words.proofs.Common.{◌≡◌, ◌≤◌, ◌<◌, ◌+◌, ℕ, refl, sym, ap, subst, ◌∙◌, List, [], ◌∷◌, ◌++◌, length}
use Rattle.kit_words.proofs.Common.{get_or, take, Option, None, Some, inl, inr, arith, Contains, Vec, IsTrue, true}
use Rattle.kit_words.proofs.Common.{◌==◌, AllByRecursion, flat_map, cases_lt, map_more, take_all}
use Rattle.grid_geometry.specs.Common.{Position}
use Rattle.ring_machine.specs.Common.{is_ring, Document, Feature, features, feature, rings, rings_of, Proper}
use Rattle.ring_machine.specs.Common.{feature_at, or_else, no_feature, WellFormed}
use Rattle.ring_machine.proofs.Common.{In, in-append, feature_found, found_in, contains_in, in_contains, in_flat}
use Rattle.ring_machine.proofs.Common.{in-map, in-flat_map, all_of, all_in, in_recursion}
use Rattle.ring_parts.specs.Common.{rings_seen, polygons_seen}
use Rattle.segment_index.specs.Common.{SegmentSet}
use Rattle.point_queries.specs.Common.{CoversRings, IsCovered, KeepsCovered}
use Rattle.point_queries.specs.Common.{CoversFeature}

-- ---- rings

-- all elements of these are rings
abbrev pub AreRings : List (List Position) → Type 0
AreRings rings = AllByRecursion (λ ring. IsTrue (is_ring ring)) rings

-- an item of a polygon is a ring
pub ring_at : {A : Type 0} (polygon : List (Vec Position A)) (i : ℕ) (ring : Vec Position A)
    → i < length polygon → ring ≡ get_or polygon i ring → AreRings (rings_seen polygon)
    → is_ring ring.items ≡ true
ring_at {A} polygon i ring lt here all =
    let among = contains_in polygon ring (i, lt, sym here) in
    in_recursion (λ ring. IsTrue (is_ring ring)) (rings_seen polygon) ring.items all
    (in-map (λ (ring : Vec Position A). ring.items) ring polygon among)

-- the rings of an item of some polygons are rings
pub rings_at : {A : Type 0} (polygons : List (Vec (Vec Position A) A)) (i : ℕ) (polygon : Vec (Vec Position A) A)
    → i < length polygons → polygon ≡ get_or polygons i polygon
    → AreRings (flat_map (λ polygon. polygon) (polygons_seen polygons)) → AreRings (rings_seen polygon.items)
rings_at {A} polygons i polygon lt here all =
    let among = contains_in polygons polygon (i, lt, sym here) in
    let seen = in-map (λ (polygon : Vec (Vec Position A) A). rings_seen polygon.items) polygon polygons among in
    all_of (λ ring. IsTrue (is_ring ring)) (rings_seen polygon.items) (λ ring j.
    in_recursion (λ ring. IsTrue (is_ring ring)) (flat_map (λ polygon. polygon) (polygons_seen polygons)) ring all
    (in-flat_map (λ polygon. polygon) (rings_seen polygon.items) ring (polygons_seen polygons) seen j))

-- ---- rings that come one after another

-- the boxes of some rings, and then those of others
covers_more : (old new : SegmentSet) (xs ys zs : List (List Position)) → zs ≡ xs ++ ys → KeepsCovered old new
    → CoversRings old xs → CoversRings new ys → CoversRings new zs
covers_more old new xs ys zs e keeps below here r i = elim (in-append r xs ys (subst (In r) e (contains_in zs r i))) [
  | inl j ↦ keeps r (below r (in_contains xs r j))
  | inr j ↦ here r (in_contains ys r j)
]

covers_one : (boxes : SegmentSet) (ring : List Position) → IsCovered boxes ring → CoversRings boxes (ring ∷ [])
covers_one boxes ring h r i = by (contains_in (ring ∷ []) r i)
  where
    by : In r (ring ∷ []) → IsCovered boxes r
    by (inl e) = subst (IsCovered boxes) e h
    by (inr none) = absurd none

pub next_ring : {A : Type 0} (polygon : List (Vec Position A)) (i : ℕ) (ring : Vec Position A)
    (old new : SegmentSet) → i < length polygon → ring ≡ get_or polygon i ring → KeepsCovered old new
    → IsCovered new ring.items → CoversRings old (rings_seen (take i polygon))
    → CoversRings new (rings_seen (take (i + 1) polygon))
next_ring {A} polygon i ring old new lt here keeps h below =
    let more = map_more (λ (ring : Vec Position A). ring.items) polygon i ring lt in
    covers_more old new (rings_seen (take i polygon)) (ring.items ∷ []) (rings_seen (take (i + 1) polygon))
    (more ∙ ap (λ (z : Vec Position A). rings_seen (take i polygon) ++ z.items ∷ []) (sym here)) keeps below (covers_one new ring.items h)

pub next_polygon : {A : Type 0} (polygons : List (Vec (Vec Position A) A)) (i : ℕ) (polygon : Vec (Vec Position A) A)
    (old new : SegmentSet) → i < length polygons → polygon ≡ get_or polygons i polygon → KeepsCovered old new
    → CoversRings new (rings_seen polygon.items)
    → CoversRings old (flat_map (λ polygon. polygon) (polygons_seen (take i polygons)))
    → CoversRings new (flat_map (λ polygon. polygon) (polygons_seen (take (i + 1) polygons)))
next_polygon {A} polygons i polygon old new lt here keeps h below r j =
    let more = map_more (λ (polygon : Vec (Vec Position A) A). rings_seen polygon.items) polygons i polygon lt in
    let e : polygons_seen (take (i + 1) polygons) ≡ polygons_seen (take i polygons) ++ rings_seen polygon.items ∷ [] =
    more ∙ ap (λ (z : Vec (Vec Position A) A). polygons_seen (take i polygons) ++ rings_seen z.items ∷ []) (sym here) in
    let front = polygons_seen (take i polygons) in
    let longer = polygons_seen (take (i + 1) polygons) in
    let k = in_flat (λ polygon. polygon) r longer (contains_in (flat_map (λ polygon. polygon) longer) r j) in
    elim (in-append k.0 front (rings_seen polygon.items ∷ []) (subst (In k.0) e k.1)) [
      | inl l ↦ keeps r (below r (in_contains (flat_map (λ polygon. polygon) front) r (in-flat_map (λ polygon. polygon) k.0 r front l k.2)))
      | inr l ↦ by k.0 l k.2
    ]
  where
    by : (rs : List (List Position)) → In rs (rings_seen polygon.items ∷ []) → In r rs → IsCovered new r
    by rs (inl same) l = h r (in_contains (rings_seen polygon.items) r (subst (In r) (sym same) l))
    by rs (inr none) l = absurd none

-- at the end of a list, all of it came
pub all_rings : {A : Type 0} (polygon : List (Vec Position A)) (i : ℕ) (boxes : SegmentSet) → length polygon ≤ i
    → CoversRings boxes (rings_seen (take i polygon)) → CoversRings boxes (rings_seen polygon)
all_rings polygon i boxes le h = subst (λ z. CoversRings boxes (rings_seen z)) (take_all i polygon le) h

pub all_polygons : {A : Type 0} (polygons : List (Vec (Vec Position A) A)) (i : ℕ) (boxes : SegmentSet) → length polygons ≤ i
    → CoversRings boxes (flat_map (λ polygon. polygon) (polygons_seen (take i polygons)))
    → CoversRings boxes (flat_map (λ polygon. polygon) (polygons_seen polygons))
all_polygons polygons i boxes le h =
    subst (λ z. CoversRings boxes (flat_map (λ polygon. polygon) (polygons_seen z))) (take_all i polygons le) h

-- ---- a feature of a document

-- a ring of the feature of a number is one of the document
rings_there : (d : Document) (n : ℕ) (ring : List Position) → In ring (rings_of (feature_at d n)) → In ring (rings d)
rings_there d n ring i = by (feature d n) refl i
  where
    by : (o : Option Feature) → feature d n ≡ o → In ring (rings_of (or_else no_feature o)) → In ring (rings d)
    by None e j = absurd j
    by (Some f) e j = in-flat_map rings_of f ring (features d) (found_in (λ f. f.number == n) (features d) f e).0 j

pub feature_rings : (d : Document) (n : ℕ) (polygons : List (List (List Position))) → Proper d
    → polygons ≡ (feature_at d n).polygons → AreRings (flat_map (λ polygon. polygon) polygons)
feature_rings d n polygons proper e =
    subst (λ z. AreRings (flat_map (λ polygon. polygon) z)) (sym e)
    (all_of (λ ring. IsTrue (is_ring ring)) (rings_of (feature_at d n))
    (λ ring i. all_in is_ring (rings d) ring proper.are_rings (rings_there d n ring i)))

-- the polygons of the number are those of each feature with it
pub feature_covered : (d : Document) (n : ℕ) (polygons : List (List (List Position))) (boxes : SegmentSet) → WellFormed d
    → polygons ≡ (feature_at d n).polygons → CoversRings boxes (flat_map (λ polygon. polygon) polygons) → CoversFeature boxes d n
feature_covered d n polygons boxes formed e h f i number =
    let at : feature_at d n ≡ f = ap (or_else no_feature) (feature_found d formed f n (contains_in (features d) f i) number) in
    subst (λ z. CoversRings boxes (flat_map (λ polygon. polygon) z)) (e ∙ ap (λ (f : Feature). f.polygons) at) h

-- ---- all features

pub next_number : (d : Document) (n : ℕ) (old new : SegmentSet) → KeepsCovered old new → CoversFeature new d n
    → ((k : ℕ) → k < n → CoversFeature old d k) → (k : ℕ) → k < n + 1 → CoversFeature new d k
next_number d n old new keeps here below k lt f i number = elim (cases_lt k n) [
  | inl less ↦ λ r j. keeps r (below k less f i number r j)
  | inr more ↦ let last : k ≡ n = omega (arith, lt, more) in here f i (number ∙ last)
]

pub all_covered : (d : Document) (next n : ℕ) (boxes : SegmentSet) → WellFormed d → next ≤ n
    → ((m : ℕ) → next ≤ m → feature d m ≡ None) → ((k : ℕ) → k < n → CoversFeature boxes d k)
    → CoversRings boxes (rings d)
all_covered d next n boxes formed le none below r i =
    let k = in_flat rings_of r (features d) (contains_in (rings d) r i) in
    let there = in_contains (features d) k.0 k.1 in
    below k.0.number (is_below k.0 there) k.0 there refl r (in_contains (rings_of k.0) r k.2)
  where
    is_below : (f : Feature) → Contains (features d) f → f.number < n
    is_below f there = elim (cases_lt f.number n) [
      | inl less ↦ less
      | inr more ↦
          let gone = none f.number (omega (arith, le, more)) in
          let held = feature_found d formed f f.number (contains_in (features d) f there) refl in
          absurd cc
    ]
