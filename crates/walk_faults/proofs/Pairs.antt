-- Lists of pairs, by the first and then by the second: all touches, and all crossings.
use Rattle.kit_words.proofs.Common.{◌≡◌, refl, ap, ap₂, subst, List, [], ◌∷◌, ◌++◌, ◌&&◌, map, inl, inr, Contains}
use Rattle.kit_words.proofs.Common.{flat_map, IsStrictlySortedBy, ordering_then, IsTotalOrder, tied_itself, Ordering}
use Rattle.kit_words.proofs.Common.{Less, IsStrictlySortedBy-filter, and_parts}
use Rattle.grid_geometry.specs.Common.{Position, position_cmp, Segment, segment_cmp, segment_lt, cross, is_within}
use Rattle.ring_machine.proofs.Common.{In, in-append, filter-in, contains_in, in_contains, in_mapped}
use Rattle.ring_machine.proofs.Common.{in_flat, all_of, in-map, in-flat_map, in_recursion, position_total, in-filter}
use Rattle.segment_index.proofs.Common.{segment_total}
use Rattle.walk_faults.specs.Common.{Placed, ListsAll, IsTouch, IsCrossing, touch_at, crossing_at, touch_cmp}
use Rattle.walk_faults.specs.Common.{crossing_cmp, all_positions, segments_of_walks, touching, crossing, touches_among}
use Rattle.walk_faults.specs.Common.{crossings_among}

append_ascends : {X : Type 0} (cmp : X → X → Ordering) (xs ys : List X) → IsStrictlySortedBy cmp xs → IsStrictlySortedBy cmp ys
    → ((a b : X) → In a xs → In b ys → cmp a b ≡ Less) → IsStrictlySortedBy cmp (xs ++ ys)
unfolding IsStrictlySortedBy
append_ascends cmp [] ys h k f = k
append_ascends cmp (x ∷ xs) ys h k f = (
  all_of (λ y. cmp x y ≡ Less) (xs ++ ys) (λ a i. elim (in-append a xs ys i) [
    | inl j ↦ in_recursion (λ y. cmp x y ≡ Less) xs a h.0 j
    | inr j ↦ f x a (inl refl) j
  ]),
  append_ascends cmp xs ys h.1 k (λ a b i j. f a b (inr i) j),
)

map_ascends : {X Y : Type 0} (cmp : X → X → Ordering) (cmp' : Y → Y → Ordering) (f : X → Y) → ((a b : X) → cmp a b ≡ Less → cmp' (f a) (f b) ≡ Less)
    → (xs : List X) → IsStrictlySortedBy cmp xs → IsStrictlySortedBy cmp' (map f xs)
unfolding IsStrictlySortedBy
map_ascends cmp cmp' f keeps [] h = h
map_ascends cmp cmp' f keeps (x ∷ xs) h = (
  all_of (λ y. cmp' (f x) y ≡ Less) (map f xs) (λ b i.
      let a = in_mapped f b xs i in
      subst (λ y. cmp' (f x) y ≡ Less) a.2 (keeps x a.0 (in_recursion (λ y. cmp x y ≡ Less) xs a.0 h.0 a.1))),
  map_ascends cmp cmp' f keeps xs h.1,
)

module _ {X Y Z : Type 0} (cmp : X → X → Ordering) (cmp' : Y → Y → Ordering) (both : Z → Z → Ordering) (make : X → Y → Z)
    (by_first : (x x' : X) (y y' : Y) → cmp x x' ≡ Less → both (make x y) (make x' y') ≡ Less)
    (by_second : (x : X) (y y' : Y) → cmp' y y' ≡ Less → both (make x y) (make x y') ≡ Less) (f : X → List Y) where
  abbrev pairs : List X → List Z
  pairs xs = flat_map (λ x. map (make x) (f x)) xs

  pub in_pairs : (xs : List X) (z : Z) → In z (pairs xs) → (x : X) × (y : Y) × In x xs × In y (f x) × (make x y ≡ z)
  in_pairs xs z i =
      let x = in_flat (λ x. map (make x) (f x)) z xs i in
      let y = in_mapped (make x.0) z (f x.0) x.2 in
      (x.0, y.0, x.1, y.1, y.2)

  pub pairs_in : (xs : List X) (x : X) (y : Y) → In x xs → In y (f x) → In (make x y) (pairs xs)
  pairs_in xs x y i j = in-flat_map (λ x. map (make x) (f x)) x (make x y) xs i (in-map (make x) y (f x) j)

  pub pairs_ascend : ((x : X) → IsStrictlySortedBy cmp' (f x)) → (xs : List X) → IsStrictlySortedBy cmp xs
      → IsStrictlySortedBy both (pairs xs)
  unfolding IsStrictlySortedBy
  pairs_ascend inner [] h = tt
  pairs_ascend inner (x ∷ xs) h =
      append_ascends both (map (make x) (f x)) (pairs xs)
      (map_ascends cmp' both (make x) (by_second x) (f x) (inner x)) (pairs_ascend inner xs h.1)
      (λ a b i j.
      let u = in_mapped (make x) a (f x) i in
      let v = in_pairs xs b j in
      subst (λ z. both z b ≡ Less) u.2 (subst (λ z. both (make x u.0) z ≡ Less) v.4 (by_first x v.0 u.0 v.1 (in_recursion (λ y. cmp x y ≡ Less) xs v.0 h.0 v.2))))

-- ---- the two orders

then_first : (a b : Ordering) → a ≡ Less → ordering_then a b ≡ Less
then_first a b h = ap (λ o. ordering_then o b) h

then_second : {K : Type 0} (cmp : K → K → Ordering) → IsTotalOrder cmp → (x : K) (b : Ordering) → b ≡ Less → ordering_then (cmp x x) b ≡ Less
then_second cmp total x b h = ap₂ ordering_then (tied_itself total x) h

-- each vertex with the segments on which it lies and of which it is no end
pub touches_all : (walks : List Placed) (ps : List Position) (ss : List Segment) → ListsAll position_cmp (Contains (all_positions walks)) ps
    → ListsAll segment_cmp (Contains (segments_of_walks walks)) ss → ListsAll touch_cmp (IsTouch walks) (touches_among ps ss)
touches_all walks ps ss h k = record {
  ascending = pairs_ascend position_cmp segment_cmp touch_cmp touch_at first second near
      (λ p. IsStrictlySortedBy-filter segment_cmp (is_within p) ss k.ascending) ps h.ascending;
  all = λ t. (
    λ c.
        let u = in_pairs position_cmp segment_cmp touch_cmp touch_at first second near ps t (contains_in (touches_among ps ss) t c) in
        let there = in-filter (is_within u.0) u.1 ss u.3 in
        subst (IsTouch walks) u.4 (record {
          vertex = (h.all u.0).0 (in_contains ps u.0 u.2);
          side = (k.all u.1).0 (in_contains ss u.1 there.0);
          within = there.1;
        }),
    λ i.
        in_contains (touches_among ps ss) t (pairs_in position_cmp segment_cmp touch_cmp touch_at first second near ps t.pos t.segment
        (contains_in ps t.pos ((h.all t.pos).1 i.vertex))
        (filter-in (is_within t.pos) t.segment ss (contains_in ss t.segment ((k.all t.segment).1 i.side)) i.within)),
  );
}
  where
    near : Position → List Segment
    near p = touching p ss

    first : (p q : Position) (s t : Segment) → position_cmp p q ≡ Less → touch_cmp (touch_at p s) (touch_at q t) ≡ Less
    first p q s t e = then_first (position_cmp p q) (segment_cmp s t) e

    second : (p : Position) (s t : Segment) → segment_cmp s t ≡ Less → touch_cmp (touch_at p s) (touch_at p t) ≡ Less
    second p s t e = then_second position_cmp position_total p (segment_cmp s t) e

-- each segment with those after it that cross it
pub crossings_all : (walks : List Placed) (ss : List Segment) → ListsAll segment_cmp (Contains (segments_of_walks walks)) ss
    → ListsAll crossing_cmp (IsCrossing walks) (crossings_among ss ss)
crossings_all walks ss k = record {
  ascending = pairs_ascend segment_cmp segment_cmp crossing_cmp crossing_at first second later
      (λ s. IsStrictlySortedBy-filter segment_cmp (λ t. segment_lt s t && cross s t) ss k.ascending) ss k.ascending;
  all = λ c. (
    λ i.
        let u = in_pairs segment_cmp segment_cmp crossing_cmp crossing_at first second later ss c (contains_in (crossings_among ss ss) c i) in
        let there = in-filter (λ t. segment_lt u.0 t && cross u.0 t) u.1 ss u.3 in
        let passes = and_parts (segment_lt u.0 u.1) (cross u.0 u.1) there.1 in
        subst (IsCrossing walks) u.4 (record {
          one = (k.all u.0).0 (in_contains ss u.0 u.2);
          other = (k.all u.1).0 (in_contains ss u.1 there.0);
          lesser = passes.0;
          crosses = passes.1;
        }),
    λ i.
        in_contains (crossings_among ss ss) c (pairs_in segment_cmp segment_cmp crossing_cmp crossing_at first second later ss c.first c.second
        (contains_in ss c.first ((k.all c.first).1 i.one))
        (filter-in (λ t. segment_lt c.first t && cross c.first t) c.second ss (contains_in ss c.second ((k.all c.second).1 i.other))
        (ap₂ (λ a b. a && b) i.lesser i.crosses))),
  );
}
  where
    later : Segment → List Segment
    later s = crossing s ss

    first : (s s' t t' : Segment) → segment_cmp s s' ≡ Less → crossing_cmp (crossing_at s t) (crossing_at s' t') ≡ Less
    first s s' t t' e = then_first (segment_cmp s s') (segment_cmp t t') e

    second : (s t t' : Segment) → segment_cmp t t' ≡ Less → crossing_cmp (crossing_at s t) (crossing_at s t') ≡ Less
    second s t t' e = then_second segment_cmp segment_total s (segment_cmp t t') e
