-- From what the borders keep to what the polygons of the layer hold.
use Rattle.kit_words.proofs.Common.{◌≡◌, ℕ, ◌+◌, ◌*◌, ◌<◌, ◌≤◌, ℤ, pos, ◌*ℤ◌, ◌-◌, unsigned_abs, refl, sym, ap, ap₂, ◌∙◌, subst, arith, eqb, cond, neg_ℤ}
use Rattle.kit_words.proofs.Common.{List, [], ◌∷◌, ◌++◌, map, length, get_or, All, All-tail, IsPermutation, length-append, length-map, map-append, sum_by-cons}
use Rattle.std.specs.List.{count_by, flat_map, range_with_len}
use Rattle.std.specs.List.Sorted.{IsNonDecreasing}
use Rattle.std.proofs.lemmas.List.{get_or-map}
use Rattle.std.proofs.lemmas.List.FromFn.{length-range_with_len}
use Rattle.std.proofs.lemmas.List.Elements.{All-map, All-weaker}
use Rattle.std.proofs.lemmas.List.Folds.{flat_map-map}
use Rattle.std.proofs.lemmas.List.Sorted.{IsPermutation-map, length_permutation}
use Rattle.grid_geometry.specs.Common.{Segment}
use Rattle.layer_sides.specs.Common.{AreBorders, AreHeld, Bordering, Polygon, holders, holds}
use Rattle.layer_sides.specs.Seen.{border_seen, borders_seen}
use Rattle.layer_sides.specs.declared.border.Border.{Border}
use Rattle.layer_faces.specs.declared.face.Face.{Face}
use Rattle.layer_faces.specs.declared.sums.Sums.{Sums}
use Rattle.layer_faces.specs.Common.{AddUp, AreFaces, AreSums, FaceOf, IsFace, IsOnce, area_at, beside, features_of, told_by}
use Rattle.layer_faces.specs.Common.{face_seen, faces_seen, is_gap, is_outside, side_at, total, uneven_from}
use Rattle.layer_faces.specs.Kept.{IsFound, beside_numbers, held_at, opposite_number, told_numbers}
use Rattle.layer_faces.specs.Weighed.{AreFaceSums, area_of_holder, area_of_holders, is_land, reach, told_beside_all}
use Rattle.layer_faces.proofs.Totals.{total-map}
use Rattle.layer_faces.proofs.Numbered.{held_is, numbers_few, numbers_within, opposite_at, opposite_within, sides_numbered}
use Rattle.layer_faces.proofs.ByFaces.{add_up, holder_has, same_by_index, sums_are, told_even}

map_flat : {X Y Z : Type 0} (g : Y → Z) (h : X → List Y) (xs : List X) → map g (flat_map h xs) ≡ flat_map (λ x. map g (h x)) xs
map_flat g h [] = refl
map_flat g h (x ∷ xs) = map-append g (h x) (flat_map h xs) ∙ ap (λ zs. map g (h x) ++ zs) (map_flat g h xs)

-- as many are the outside as are seen to be
counted_seen : {A : Type 0} (ss : List Segment) (faces : List (Face A))
    → count_by (λ (f : FaceOf). is_outside f.kind) (faces_seen ss faces) ≡ count_by (λ (f : Face _). is_outside f.kind) faces
counted_seen ss [] = refl
counted_seen ss (f ∷ faces) =
    sum_by-cons (λ (f : FaceOf). cond (is_outside f.kind) 1 0) (face_seen ss f) (faces_seen ss faces)
    ∙ ap (λ n. cond (is_outside f.kind) 1 0 + n) (counted_seen ss faces)
    ∙ sym (sum_by-cons (λ (f : Face _). cond (is_outside f.kind) 1 0) f faces)

-- the areas of faces are small together
reach_small : {A : Type 0} (faces : List (Face A))
    → All (λ (f : Face _). unsigned_abs f.twice_area ≤ 2000000000000000000000000 * length f.sides.items) faces
    → reach faces ≤ 2000000000000000000000000 * length (flat_map (λ (f : Face _). f.sides.items) faces)
reach_small [] h = omega arith
reach_small (f ∷ faces) h =
    let here = h 0 f (omega arith) in
    let more = reach_small faces (All-tail (λ (f : Face _). unsigned_abs f.twice_area ≤ 2000000000000000000000000 * length f.sides.items) f faces h) in
    let both = sum_by-cons (λ (f : Face _). unsigned_abs f.twice_area) f faces in
    let long = length-append f.sides.items (flat_map (λ (f : Face _). f.sides.items) faces) in
    omega (arith, both, long, here, more)

module _ (layer : List Polygon) (borders : List Bordering) (owners : List ℕ) (are : AreBorders layer borders) (held : AreHeld layer borders) where
  abbrev segments : List Segment
  segments = map (λ b. b.segment) borders

  holders_here : (a : ℕ) → a < 2 * length borders → held_at borders a ≡ holders layer (side_at segments a)
  holders_here = held_is layer borders are held

  -- the holders of a side are polygons of the layer
  pub held_within : (a : ℕ) → a < 2 * length borders → All (λ n. n < length layer) (held_at borders a)
  held_within a l =
      subst (All (λ n. n < length layer)) (sym (holders_here a l))
      (All-weaker (λ n. n < 0 + length layer) (λ n. n < length layer) (λ n h. omega arith) (holders layer (side_at segments a))
      (numbers_within 0 (λ p. holds p (side_at segments a)) layer))

  beside_same : (ns : List ℕ) → All (λ a. a < 2 * length borders) ns → beside_numbers borders ns ≡ beside layer (map (side_at segments) ns)
  beside_same [] h = refl
  beside_same (n ∷ ns) h =
      ap₂ (λ (xs ys : List ℕ). xs ++ ys)
      (holders_here (opposite_number n) (opposite_within n (length borders) (h 0 n (omega arith))) ∙ ap (holders layer) (opposite_at segments n))
      (beside_same ns (All-tail (λ a. a < 2 * length borders) n ns h))

  told_same : (hs ns : List ℕ) → All (λ a. a < 2 * length borders) ns → told_numbers borders hs ns ≡ told_by layer hs (map (side_at segments) ns)
  told_same [] ns h = beside_same ns h
  told_same (m ∷ hs) ns h = refl

  face_is : {A : Type 0} (f : Face A) → IsFound borders owners f → IsFace layer owners (face_seen segments f)
  face_is f is = record {
    held = All-map (λ a. holders layer a ≡ f.holders.items) (side_at segments) f.sides.items
        (λ k d l. sym (holders_here (get_or f.sides.items k d) (is.within k d l)) ∙ is.kept.held k d l);
    told = subst (λ ns. IsOnce (features_of owners ns) f.features.items) (told_same f.holders.items f.sides.items is.within) is.kept.told;
    area = is.kept.area;
    border = is.kept.border;
    kind = is.kept.kind;
  }

  holders_of : {A : Type 0} (f : Face A) → IsFound borders owners f → f.holders.items ≡ held_at borders (get_or f.sides.items 0 0)
  holders_of f is = sym (is.kept.held 0 0 is.some)

  holders_within : {A : Type 0} (f : Face A) → IsFound borders owners f → All (λ n. n < length layer) f.holders.items
  holders_within f is =
      subst (All (λ n. n < length layer)) (sym (holders_of f is)) (held_within (get_or f.sides.items 0 0) (is.within 0 0 is.some))

  holders_few : {A : Type 0} (f : Face A) → IsFound borders owners f → length f.holders.items ≤ length layer
  holders_few f is =
      let a = get_or f.sides.items 0 0 in
      subst (λ ns. length ns ≤ length layer) (sym (holders_of f is ∙ holders_here a (is.within 0 0 is.some))) (numbers_few 0 (λ p. holds p (side_at segments a)) layer)

  module _ {A : Type 0} (faces : List (Face A)) (found : All (IsFound borders owners) faces)
      (all : IsPermutation (range_with_len 0 (2 * length borders)) (flat_map (λ (f : Face _). f.sides.items) faces))
      (one : count_by (λ (f : Face _). is_outside f.kind) faces ≤ 1) where
    abbrev seen : List FaceOf
    seen = faces_seen segments faces

    pub all_within : All (λ (f : Face _). All (λ n. n < length layer) f.holders.items) faces
    all_within = λ k d l. holders_within (get_or faces k d) (found k d l)

    pub all_few : length layer ≤ 4000000 → All (λ (f : Face _). length f.holders.items ≤ 4000000) faces
    all_few few = λ k d l. let h = holders_few (get_or faces k d) (found k d l) in omega arith

    pub all_small : length borders ≤ 4000000 → reach faces ≤ 16000000000000000000000000000000
    all_small few =
        let long = length_permutation (range_with_len 0 (2 * length borders)) (flat_map (λ (f : Face _). f.sides.items) faces) all ∙ length-range_with_len 0 (2 * length borders) in
        let small = reach_small faces (λ k d l. let is = found k d l in is.small) in
        omega (arith, long, small)

    pub faces_are : AreFaces layer owners segments seen
    faces_are = record {
      all = subst (λ sides. IsPermutation sides (flat_map (λ (f : FaceOf). f.sides) seen))
          (ap (λ n. map (side_at segments) (range_with_len 0 (2 * n))) (sym (length-map borders (λ (b : Bordering). b.segment))) ∙ sides_numbered segments)
          (subst (IsPermutation (map (side_at segments) (range_with_len 0 (2 * length borders))))
          (map_flat (side_at segments) (λ (f : Face _). f.sides.items) faces ∙ sym (flat_map-map (λ (f : FaceOf). f.sides) (face_seen segments) faces))
          (IsPermutation-map (side_at segments) (range_with_len 0 (2 * length borders)) (flat_map (λ (f : Face _). f.sides.items) faces) all));
      each = All-map (IsFace layer owners) (face_seen segments) faces (λ k d l. face_is (get_or faces k d) (found k d l));
      one_outside = subst (λ n. n ≤ 1) (sym (counted_seen segments faces)) one;
    }

    module _ (areas : List ℤ) (s : Sums) (count : length areas ≡ length layer)
        (each : (n : ℕ) → get_or areas n (pos 0) ≡ area_of_holder faces n)
        (sum : total (λ z. z) areas ≡ area_of_holders faces)
        (sums : AreFaceSums faces s) where
      even : areas ≡ map (λ p. area_at (holds p) segments) layer
      even = same_by_index areas (map (λ p. area_at (holds p) segments) layer) (count ∙ sym (length-map layer (λ p. area_at (holds p) segments))) at
        where
          at : (i : ℕ) → i < length (map (λ p. area_at (holds p) segments) layer)
              → get_or areas i (pos 0) ≡ get_or (map (λ p. area_at (holds p) segments) layer) i (pos 0)
          at i l =
              let l' : i < length layer = omega (arith, l, length-map layer (λ p. area_at (holds p) segments)) in
              each i
              ∙ sym (total-map (λ (f : FaceOf). pos (count_by (λ m. eqb m i) f.holders) *ℤ f.area) (face_seen segments) faces)
              ∙ holder_has layer owners segments seen faces_are i [] l'
              ∙ sym (get_or-map (λ p. area_at (holds p) segments) layer i [] (pos 0) l')

      pub uneven_is : told_beside_all 0 layer areas ≡ uneven_from segments 0 layer
      uneven_is = ap (told_beside_all 0 layer) even ∙ told_even segments 0 layer

      whole : total (λ z. z) areas ≡ total (λ (f : FaceOf). pos (length f.holders) *ℤ f.area) seen
      whole = sum ∙ sym (total-map (λ (f : FaceOf). pos (length f.holders) *ℤ f.area) (face_seen segments) faces)

      over : s.over ≡ total (λ (f : FaceOf). pos (length f.holders - 1) *ℤ f.area) seen
      over = sums.over ∙ sym (total-map (λ (f : FaceOf). pos (length f.holders - 1) *ℤ f.area) (face_seen segments) faces)

      pub sums_hold : AreSums layer segments seen s
      sums_hold =
          sums_are layer owners segments seen faces_are areas s even whole sums.polygons over
          (sums.covered ∙ sym (total-map (λ (f : FaceOf). cond (is_land f.kind) f.area (pos 0)) (face_seen segments) faces))
          (sums.gaps ∙ sym (total-map (λ (f : FaceOf). cond (is_gap f.kind) f.area (pos 0)) (face_seen segments) faces))
          (sums.within ∙ ap neg_ℤ (sym (total-map (λ (f : FaceOf). cond (is_outside f.kind) f.area (pos 0)) (face_seen segments) faces)))

      pub sums_add_up : AddUp s
      sums_add_up =
          add_up layer owners segments seen faces_are areas s even whole sums.polygons over
          (sums.covered ∙ sym (total-map (λ (f : FaceOf). cond (is_land f.kind) f.area (pos 0)) (face_seen segments) faces))
          (sums.gaps ∙ sym (total-map (λ (f : FaceOf). cond (is_gap f.kind) f.area (pos 0)) (face_seen segments) faces))
          (sums.within ∙ ap neg_ℤ (sym (total-map (λ (f : FaceOf). cond (is_outside f.kind) f.area (pos 0)) (face_seen segments) faces)))

-- the numbers of the sides of borders, by how many they are as they are seen
pub numbers_of_borders : {A B : Type 0} (borders : List (Border A)) (faces : List (Face B))
    → IsPermutation (range_with_len 0 (2 * length borders)) (flat_map (λ (f : Face _). f.sides.items) faces)
    → IsPermutation (range_with_len 0 (2 * length (borders_seen borders))) (flat_map (λ (f : Face _). f.sides.items) faces)
numbers_of_borders borders faces all =
    subst (λ n. IsPermutation (range_with_len 0 (2 * n)) (flat_map (λ (f : Face _). f.sides.items) faces)) (sym (length-map borders border_seen)) all

pub all_ascending : {A : Type 0} (borders : List Bordering) (owners : List ℕ) (faces : List (Face A)) → All (IsFound borders owners) faces
    → All (λ (f : Face _). IsNonDecreasing f.sides.items) faces
all_ascending borders owners faces found = λ k d l. let is = found k d l in is.ascending

pub all_named : {A : Type 0} (borders : List Bordering) (owners : List ℕ) (faces : List (Face A)) → All (IsFound borders owners) faces
    → All (λ (f : Face _). get_or f.sides.items 0 0 ≡ f.first) faces
all_named borders owners faces found = λ k d l. let is = found k d l in is.named
