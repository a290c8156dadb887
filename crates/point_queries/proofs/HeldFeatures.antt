-- The features that hold a position, by rings that stand an odd number of times where they hold it.
use Rattle.kit_words.proofs.Common.{◌≡◌, ℕ, zero, suc, Bool, true, false, refl, sym, ap, ap₂, ◌∙◌, subst, ◌&&◌, arith}
use Rattle.kit_words.proofs.Common.{List, [], ◌∷◌, map, Some, not, ◌==◌, is_some, slice_get, option_map, list_any}
use Rattle.kit_words.proofs.Common.{filter, fold, find, BTreeSet, contains, false≢true, Decides-eqb, and_parts}
use Rattle.kit_words.proofs.Common.{and_from, false_from_ne_true, not-true}
use Rattle.std.proofs.Common.{unwrap_or}
use Rattle.grid_geometry.specs.Common.{Position, xor, is_inside}
use Rattle.ring_machine.specs.Common.{Document, Feature, features, feature, is_on_border, is_in_polygon, is_in_feature}
use Rattle.ring_machine.specs.Common.{border_at, inside_at, are_distinct}
use Rattle.ring_machine.proofs.Common.{In, filter-in, found, in_contains, any_in, in_any, there}
use Rattle.ring_machine.proofs.Common.{mapped_there, xor-assoc, xor-none, in-filter, slice-in}
use Rattle.map_frame.specs.declared.names.RingName.{RingName}
use Rattle.map_frame.specs.Common.{element, frame_ring}
use Rattle.map_frame.proofs.Common.{element_is, of_in}
use Rattle.point_queries.specs.declared.odd.PolygonName.{PolygonName}
use Rattle.point_queries.specs.Common.{odd, AreOdd, TellsInside, is_name, is_polygon, is_of_holder, polygon_name, polygon_cmp}
use Rattle.point_queries.specs.Common.{ring_named, IsSorted}
use Rattle.point_queries.proofs.Ascending.{numbers_found, in_numbers, numbers_have}
use Rattle.point_queries.proofs.Odds.{odd-alike, odd-exchange, odd-some}
use Rattle.point_queries.proofs.SharedBorders.{found_in}

-- ---- the names of a polygon's rings

-- a name for each element, by its place
abbrev names_at : {X : Type 0} → (ℕ → RingName) → List X → List RingName
names_at name [] = []
names_at name (x ∷ xs) = name 0 ∷ names_at (λ i. name (suc i)) xs

none_at : {X : Type 0} (test : RingName → Bool) (name : ℕ → RingName) (xs : List X) → ((i : ℕ) → test (name i) ≡ false)
    → odd test (names_at name xs) ≡ false
none_at test name [] h = refl
none_at test name (x ∷ xs) h = ap₂ xor (h 0) (none_at test (λ i. name (suc i)) xs (λ i. h (suc i)))

one_at : {X : Type 0} (test : RingName → Bool) (name : ℕ → RingName) (xs : List X) (r : ℕ) (x : X) → slice_get xs r ≡ Some x
    → test (name r) ≡ true → ((i : ℕ) → (i ≡ r → ⊥) → test (name i) ≡ false) → odd test (names_at name xs) ≡ true
one_at test name [] r x e h k = absurd cc
one_at test name (y ∷ ys) zero x e h k =
    ap₂ xor h (none_at test (λ i. name (suc i)) ys (λ i. k (suc i) (λ f. omega (arith, f))))
one_at test name (y ∷ ys) (suc r) x e h k =
    ap₂ xor (k 0 (λ f. omega (arith, f))) (one_at test (λ i. name (suc i)) ys r x e h (λ i f. k (suc i) (λ g. f (omega (arith, g)))))

fold_at : (p : Position) (test : RingName → Bool) (name : ℕ → RingName) (polygon : List (List Position)) (b : Bool)
    → ((r : ℕ) (ring : List Position) → slice_get polygon r ≡ Some ring → test (name r) ≡ is_inside p ring)
    → fold (λ so_far ring. xor so_far (is_inside p ring)) b polygon ≡ xor b (odd test (names_at name polygon))
fold_at p test name [] b h = sym (xor-none b)
fold_at p test name (ring ∷ polygon) b h =
    fold_at p test (λ i. name (suc i)) polygon (xor b (is_inside p ring)) (λ r s e. h (suc r) s e)
    ∙ xor-assoc b (is_inside p ring) (odd test (names_at (λ i. name (suc i)) polygon))
    ∙ ap (λ z. xor b (xor z (odd test (names_at (λ i. name (suc i)) polygon)))) (sym (h 0 ring refl))

apart_and : (a b c : Bool) → (a && b) ≡ false → (a && (b && c)) ≡ false
apart_and a b c h = grind arith

module _ (d : Document) (distinct : are_distinct (map (λ f. f.number) (features d)) ≡ true) (p : Position)
    (names : List RingName) (tells : TellsInside d p names) where
  -- ---- one polygon
  module _ (g : Feature) (i : In g (features d)) (k : ℕ) (polygon : List (List Position)) (e : slice_get g.polygons k ≡ Some polygon) where
    abbrev name_of : ℕ → RingName
    name_of r = record { feature = g.number; polygon = k; ring = r }

    ring_here : (r : ℕ) → ring_named d (name_of r) ≡ slice_get polygon r
    ring_here r =
        ap (λ o. element (element (option_map (λ f. f.polygons) o) k) r) (found g (features d) distinct i)
        ∙ ap (λ o. element o r) e

    odd_here : (r : ℕ) (ring : List Position) → slice_get polygon r ≡ Some ring → odd (is_name (name_of r)) names ≡ is_inside p ring
    odd_here r ring f =
        tells.odds (name_of r) (ap is_some (ring_here r ∙ f)) ∙ ap (λ o. is_inside p (unwrap_or o [])) (ring_here r ∙ f)

    abbrev here : PolygonName
    here = record { feature = g.number; polygon = k }

    one_name : (name : RingName) → In name names
        → is_polygon here (polygon_name name) ≡ odd (λ m. is_name m name) (names_at name_of polygon)
    one_name name j = by (is_polygon here (polygon_name name)) refl
      where
        by : (b : Bool) → is_polygon here (polygon_name name) ≡ b → b ≡ odd (λ m. is_name m name) (names_at name_of polygon)
        by false f = sym (none_at (λ m. is_name m name) name_of polygon (λ r. apart_and (g.number == name.feature) (k == name.polygon) (r == name.ring) f))
        by true f =
            let same = and_parts (g.number == name.feature) (k == name.polygon) f in
            let number : g.number ≡ name.feature = (Decides-eqb g.number name.feature).0 same.0 in
            let place : k ≡ name.polygon = (Decides-eqb k name.polygon).0 same.1 in
            let ring = there (ring_named d name) (tells.rings name (in_contains names name j)) in
            sym (one_at (λ m. is_name m name) name_of polygon name.ring ring.0
            (sym (ring_here name.ring) ∙ ap₂ (λ n q. frame_ring d n q name.ring) number place ∙ ring.1)
            (and_from (g.number == name.feature) (k == name.polygon && name.ring == name.ring) same.0 (and_from (k == name.polygon) (name.ring == name.ring) same.1 ((Decides-eqb name.ring name.ring).1 refl)))
            (λ r differ. false_from_ne_true (is_name (name_of r) name) (λ t. differ ((Decides-eqb r name.ring).0 (and_parts (k == name.polygon) (r == name.ring) (and_parts (g.number == name.feature) (k == name.polygon && r == name.ring) t).1).1))))

    -- an odd number of the rings are the polygon's where it holds the position
    odd_polygon : odd (λ name. is_polygon here (polygon_name name)) names ≡ is_in_polygon p polygon
    odd_polygon =
        odd-alike (λ name. is_polygon here (polygon_name name)) (λ name. odd (λ m. is_name m name) (names_at name_of polygon)) names one_name
        ∙ odd-exchange (λ name m. is_name m name) names (names_at name_of polygon)
        ∙ sym (fold_at p (λ m. odd (is_name m) names) name_of polygon false odd_here)

  -- ---- all features

  -- the polygon of a name
  polygon_named : (name : RingName) → In name names
      → (g : Feature) × In g (features d) × (g.number ≡ name.feature) × ((polygon : List (List Position)) × (slice_get g.polygons name.polygon ≡ Some polygon))
  polygon_named name j =
      let ring = there (ring_named d name) (tells.rings name (in_contains names name j)) in
      let b = element_is (element (option_map (λ f. f.polygons) (feature d name.feature)) name.polygon) name.ring ring.0 ring.1 in
      let c = element_is (option_map (λ f. f.polygons) (feature d name.feature)) name.polygon b.0 b.1 in
      let g = mapped_there (λ (f : Feature). f.polygons) (feature d name.feature) c.0 c.1 in
      let at = found_in name.feature (features d) g.0 g.1 in
      (g.0, at.0, at.1, (b.0, ap (λ z. slice_get z name.polygon) g.2 ∙ c.2))

  -- features with one number are one
  same_feature : (f g : Feature) → In f (features d) → In g (features d) → f.number ≡ g.number → f ≡ g
  same_feature f g i j e =
      ap (λ o. unwrap_or o f) (sym (found f (features d) distinct i) ∙ ap (λ n. find (λ h. h.number == n) (features d)) e ∙ found g (features d) distinct j)

  module _ (border : List ℕ) (on : border ≡ border_at d p) where
    abbrev is_there : ℕ → Bool
    is_there n = list_any (λ m. m == n) border

    on_border : (g : Feature) → In g (features d) → is_on_border p g ≡ true → is_there g.number ≡ true
    on_border g i h =
        in_any (λ m. m == g.number) g.number border
        (subst (In g.number) (sym on) (numbers_have (filter (is_on_border p) (features d)) g (filter-in (is_on_border p) g (features d) i h)))
        ((Decides-eqb g.number g.number).1 refl)

    of_border : (g : Feature) → In g (features d) → is_there g.number ≡ true → is_on_border p g ≡ true
    of_border g i h =
        let m = any_in (λ m. m == g.number) border h in
        let f = in_numbers (filter (is_on_border p) (features d)) m.0 (subst (In m.0) on m.1) in
        let k = in-filter (is_on_border p) f.0 (features d) f.1 in
        subst (λ z. is_on_border p z ≡ true) (same_feature f.0 g k.0 i (f.2 ∙ (Decides-eqb m.0 g.number).0 m.2)) k.1

    module _ (polygons : BTreeSet PolygonName) (o : AreOdd names polygons) where
      held_in : (name : RingName) → In name names → is_of_holder polygons border name ≡ true
          → (g : Feature) × In g (features d) × (is_in_feature p g ≡ true) × (g.number ≡ name.feature)
      held_in name j h =
          let k = and_parts (contains polygon_cmp polygons (polygon_name name)) (not (is_there name.feature)) h in
          let t = polygon_named name j in
          let g = t.0 in
          let polygon = t.3 in
          let here : PolygonName = record { feature = g.number; polygon = name.polygon } in
          let inside : is_in_polygon p polygon.0 ≡ true =
          sym (odd_polygon g t.1 name.polygon polygon.0 polygon.1) ∙ sym (o here)
          ∙ ap (λ n. contains polygon_cmp polygons (record { feature = n; polygon = name.polygon })) t.2 ∙ k.0 in
          let off : is_on_border p g ≡ false =
          false_from_ne_true (is_on_border p g) (λ u. false≢true (sym (not-true (is_there name.feature) k.1) ∙ ap is_there (sym t.2) ∙ on_border g t.1 u)) in (
            g,
            t.1,
            and_from (not (is_on_border p g)) (list_any (is_in_polygon p) g.polygons) (ap not off) (in_any (is_in_polygon p) polygon.0 g.polygons (slice-in g.polygons name.polygon polygon.0 polygon.1) inside),
            t.2,
          )

      in_held : (g : Feature) → In g (features d) → is_in_feature p g ≡ true
          → (name : RingName) × In name names × (is_of_holder polygons border name ≡ true) × (name.feature ≡ g.number)
      in_held g i h =
          let k = and_parts (not (is_on_border p g)) (list_any (is_in_polygon p) g.polygons) h in
          let polygon = any_in (is_in_polygon p) g.polygons k.1 in
          let place = of_in g.polygons polygon.0 polygon.1 in
          let here : PolygonName = record { feature = g.number; polygon = place.0 } in
          let many : odd (λ name. is_polygon here (polygon_name name)) names ≡ true = odd_polygon g i place.0 polygon.0 place.1 ∙ polygon.2 in
          let name = odd-some (λ name. is_polygon here (polygon_name name)) names many in
          let same = and_parts (g.number == (name.0).feature) (place.0 == (name.0).polygon) name.2 in
          let number : g.number ≡ (name.0).feature = (Decides-eqb g.number (name.0).feature).0 same.0 in
          let at : place.0 ≡ (name.0).polygon = (Decides-eqb place.0 (name.0).polygon).0 same.1 in (
            name.0,
            name.1,
            and_from (contains polygon_cmp polygons (polygon_name name.0)) (not (is_there (name.0).feature))
                (ap₂ (λ n q. contains polygon_cmp polygons (record { feature = n; polygon = q })) (sym number) (sym at) ∙ o here ∙ many)
                (ap not (false_from_ne_true (is_there (name.0).feature) (λ u. false≢true (sym (not-true (is_on_border p g) k.0) ∙ of_border g i (ap is_there number ∙ u))))),
            sym number,
          )

      -- the numbers of the features of the rings held, ascending, are those that hold the position
      pub inside_are : (within : List RingName) → within ≡ filter (is_of_holder polygons border) names
          → (found sorted : List ℕ) → found ≡ map (λ name. name.feature) within → IsSorted found sorted
          → sorted ≡ inside_at d p
      inside_are within w found sorted e s =
          numbers_found (λ name. name.feature) within (is_in_feature p) (features d) found sorted distinct e s
          (λ name j. let k = in-filter (is_of_holder polygons border) name names (subst (In name) w j) in held_in name k.0 k.1)
          (λ g j h.
          let name = in_held g j h in
          (name.0, subst (In name.0) (sym w) (filter-in (is_of_holder polygons border) name.0 names name.1 name.2), name.3))
