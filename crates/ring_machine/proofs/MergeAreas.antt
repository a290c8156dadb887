-- The area of a feature that two are merged to is the sum of their areas.
use Rattle.kit_words.proofs.Common.{◌≡◌, ℕ, ℤ, pos, ◌+ℤ◌, ◌-ℤ◌, true, refl, sym, ap, ap₂, ◌∙◌, subst, List, [], ◌∷◌}
use Rattle.kit_words.proofs.Common.{◌++◌, None, inl, arith, ◌==◌, fold, flat_map, ints}
use Rattle.grid_geometry.specs.Common.{Position}
use Rattle.ring_machine.specs.Common.{is_ring, Document, Feature, features, rings_of, rings, Proper, joined}
use Rattle.ring_machine.specs.Common.{joined_polygons, join, absolute_area, polygon_area, area_of, first_of}
use Rattle.ring_machine.specs.Common.{merge_refusals, feature_at, or_else, no_feature}
use Rattle.ring_machine.proofs.First.{In, in_left}
use Rattle.ring_machine.proofs.Neighbours.{in-flat_map, all_in}
use Rattle.ring_machine.proofs.JoinedAreas.{joined_area}
use Rattle.ring_machine.proofs.MergeAccepted.{Pair, merge-accepted}
use Rattle.ring_machine.proofs.MergedFeatures.{merged, feature_at-join}

-- ---- polygons

-- the area x less those of the holes
abbrev less : ℤ → List (List Position) → ℤ
less x holes = fold (λ so_far hole. so_far -ℤ absolute_area hole) x holes

move : (x y a : ℤ) → (x +ℤ y) -ℤ a ≡ x +ℤ (y -ℤ a)
move x y a = omega (arith, ints)

move_first : (x y a : ℤ) → (x +ℤ y) -ℤ a ≡ (x -ℤ a) +ℤ y
move_first x y a = omega (arith, ints)

less_second : (x y : ℤ) (holes : List (List Position)) → less (x +ℤ y) holes ≡ x +ℤ less y holes
less_second x y [] = refl
less_second x y (h ∷ holes) = ap (λ z. less z holes) (move x y (absolute_area h)) ∙ less_second x (y -ℤ absolute_area h) holes

-- each hole is taken from the polygon that it comes from
less_both : (x y : ℤ) (holes more : List (List Position))
    → less (x +ℤ y) (holes ++ more) ≡ less x holes +ℤ less y more
less_both x y [] more = less_second x y more
less_both x y (h ∷ holes) more = ap (λ z. less z (holes ++ more)) (move_first x y (absolute_area h)) ∙ less_both (x -ℤ absolute_area h) y holes more

polygons_area : (r s t : List Position) (holes more : List (List Position))
    → absolute_area t ≡ absolute_area r +ℤ absolute_area s
    → polygon_area (t ∷ (holes ++ more)) ≡ polygon_area (r ∷ holes) +ℤ polygon_area (s ∷ more)
polygons_area r s t holes more e = ap (λ z. less z (holes ++ more)) e ∙ less_both (absolute_area r) (absolute_area s) holes more

-- ---- features

one_sum : (a b c : ℤ) → a ≡ b +ℤ c → pos 0 +ℤ a ≡ (pos 0 +ℤ b) +ℤ (pos 0 +ℤ c)
one_sum a b c e = omega (arith, ints, e)

pub merged_area : (f g : Feature) (p : Pair f g) → is_ring p.r ≡ true → is_ring p.s ≡ true
    → area_of (merged g f) ≡ area_of f +ℤ area_of g
merged_area f g p first second =
    ap (λ ps. fold (λ so_far polygon. so_far +ℤ polygon_area polygon) (pos 0) ps) (ap₂ joined_polygons p.first p.second)
    ∙ one_sum (polygon_area (joined p.r p.s ∷ (p.holes ++ p.more))) (polygon_area (p.r ∷ p.holes)) (polygon_area (p.s ∷ p.more))
    (polygons_area p.r p.s (joined p.r p.s) p.holes p.more (joined_area p.r p.s first second p.joins.some p.joins.one p.joins.sides))
    ∙ sym (ap₂ (λ ps qs. fold (λ so_far polygon. so_far +ℤ polygon_area polygon) (pos 0) ps +ℤ fold (λ so_far polygon. so_far +ℤ polygon_area polygon) (pos 0) qs) p.first p.second)

-- ---- documents

-- the outer ring of a feature of one polygon is one of the document's
pub outer_in : (d : Document) (f : Feature) (r : List Position) (holes : List (List Position))
    → In f (features d) → f.polygons ≡ (r ∷ holes) ∷ [] → In r (rings d)
outer_in d f r holes i e =
    in-flat_map rings_of f r (features d) i
    (subst (λ ps. In r (flat_map (λ polygon. polygon) ps)) (sym e) (in_left r (r ∷ holes) [] (inl refl)))

-- an accepted merge gives the sum of both areas
pub merge_areas : (d : Document) (n m : ℕ) → Proper d → first_of (merge_refusals d n m) ≡ None
    → area_of (feature_at (join d n (feature_at d m)) n)
    ≡ area_of (feature_at d n) +ℤ area_of (feature_at d m)
merge_areas d n m proper h =
    let a = merge-accepted d n m h in
    let p = a.pair_is in
    let first = all_in is_ring (rings d) p.r proper.are_rings (outer_in d a.first p.r p.holes a.first_in p.first) in
    let second = all_in is_ring (rings d) p.s proper.are_rings (outer_in d a.second p.s p.more a.second_in p.second) in
    ap (λ o. area_of (feature_at (join d n (or_else no_feature o)) n)) a.second_is
    ∙ ap area_of (feature_at-join d n a.first a.second (ap (λ k. n == k) a.second_number ∙ a.differ) a.first_is)
    ∙ merged_area a.first a.second p first second
    ∙ sym (ap₂ (λ x y. area_of (or_else no_feature x) +ℤ area_of (or_else no_feature y)) a.first_is a.second_is)
