-- A feature that a path cuts: which of its polygons is cut, what stays and what becomes new.
use Rattle.kit_words.proofs.Common.{◌≡◌, ℕ, ℤ, ◌+ℤ◌, true, false, refl, sym, ap, ap₂, ◌∙◌, subst, List, [], ◌∷◌, ◌++◌}
use Rattle.kit_words.proofs.Common.{map, inl, ◌&&◌, ◌||◌, Some, arith, pos, not, list_any, list_all, fold, false≢true}
use Rattle.kit_words.proofs.Common.{ints, and_parts, or_parts, not-true}
use Rattle.grid_geometry.specs.Common.{Position, position_eq}
use Rattle.ring_machine.specs.Common.{has, is_ring, Feature, Text, Polygon, rings_of, Path, is_cut_by, is_wrong_side}
use Rattle.ring_machine.specs.Common.{first_that, first_polygon, second_polygon, stays, parted, area_of, polygon_area}
use Rattle.ring_machine.proofs.CutRings.{cut_ring}
use Rattle.ring_machine.proofs.First.{In, in_right}
use Rattle.ring_machine.proofs.FirstThat.{FirstThat, first_passing, first_that-is, change_first-is}
use Rattle.ring_machine.proofs.Neighbours.{all_in, in-flat_map}
use Rattle.ring_machine.proofs.SplitAreas.{polygons_area, exchanged_area}

-- the second part of the polygon as a feature
abbrev pub new_feature : Path → ℕ → Text → Feature → List (List Position) → Feature
new_feature path number id f polygon = record {
  number = number;
  id = Some id;
  form = Polygon;
  properties = f.properties;
  members = f.members;
  polygons = second_polygon path polygon ∷ [];
}

-- the first polygon of f that the path cuts, and the two features
pub record SplitFeature (path : Path) (number : ℕ) (id : Text) (f : Feature) : Type 0 where
  pub before : List (List (List Position))
  pub outer : List Position
  pub holes : List (List Position)
  pub after : List (List (List Position))
  pub is : f.polygons ≡ before ++ (outer ∷ holes) ∷ after
  pub first : has outer path.first ≡ true
  pub last : has outer path.last ≡ true
  pub off_holes : list_any (λ h. has h path.first || has h path.last) holes ≡ false
  pub target : first_that (is_cut_by path) f.polygons ≡ (outer ∷ holes) ∷ []
  pub kept : (stays path f).polygons ≡ before ++ first_polygon path (outer ∷ holes) ∷ after
  pub parted_is : parted path number id f ≡ new_feature path number id f (outer ∷ holes) ∷ []

pub split_feature : (path : Path) (number : ℕ) (id : Text) (f : Feature)
    → list_any (is_cut_by path) f.polygons ≡ true → SplitFeature path number id f
split_feature path number id f h = by (first_passing (is_cut_by path) f.polygons h)
  where
    by : FirstThat (is_cut_by path) f.polygons → SplitFeature path number id f
    by t = on t.it refl t.passes
      where
        on : (polygon : List (List Position)) → t.it ≡ polygon → is_cut_by path polygon ≡ true
            → SplitFeature path number id f
        on [] e k = absurd (false≢true k)
        on (outer ∷ holes) e k =
            let ends = and_parts (has outer path.first && has outer path.last) (not (list_any (λ h. has h path.first || has h path.last) holes)) k in
            let both = and_parts (has outer path.first) (has outer path.last) ends.0 in
            let target : first_that (is_cut_by path) f.polygons ≡ (outer ∷ holes) ∷ [] = first_that-is (is_cut_by path) f.polygons t ∙ ap (λ z. z ∷ []) e in
            record {
              before = t.before;
              outer = outer;
              holes = holes;
              after = t.after;
              is = t.is ∙ ap (λ z. t.before ++ z ∷ t.after) e;
              first = both.0;
              last = both.1;
              off_holes = not-true _ ends.1;
              target = target;
              kept = change_first-is (is_cut_by path) f.polygons t (first_polygon path) ∙ ap (λ z. t.before ++ first_polygon path z ∷ t.after) e;
              parted_is = ap (map (new_feature path number id f)) target;
            }

module _ (path : Path) (number : ℕ) (id : Text) (f : Feature) (s : SplitFeature path number id f) where
  -- the outer ring that is cut is a ring of the feature
  pub outer_is_ring : list_all is_ring (rings_of f) ≡ true → is_ring s.outer ≡ true
  outer_is_ring rings =
      all_in is_ring (rings_of f) s.outer rings
      (in-flat_map (λ polygon. polygon) (s.outer ∷ s.holes) s.outer f.polygons
      (subst (In (s.outer ∷ s.holes)) (sym s.is) (in_right (s.outer ∷ s.holes) s.before ((s.outer ∷ s.holes) ∷ s.after) (inl refl))) (inl refl))

  new_area : (a : ℤ) → pos 0 +ℤ a ≡ a
  new_area a = omega (arith, ints)

  -- the areas of what stays and of the new feature add up to that of the feature
  pub features_area : list_all is_ring (rings_of f) ≡ true → position_eq path.first path.last ≡ false
      → list_any (is_wrong_side path) (first_that (is_cut_by path) f.polygons) ≡ false →
      area_of (stays path f) +ℤ area_of (new_feature path number id f (s.outer ∷ s.holes)) ≡ area_of f
  features_area rings two sides =
      let polygon = s.outer ∷ s.holes in
      let side = or_parts (is_wrong_side path polygon) false (ap (list_any (is_wrong_side path)) (sym s.target) ∙ sides) in
      let parts = polygons_area path s.outer s.holes (cut_ring s.outer path.first path.last (outer_is_ring rings) s.first s.last two) side.0 in
      ap₂ (λ y z. fold (λ so_far p. so_far +ℤ polygon_area p) (pos 0) y +ℤ z) s.kept (new_area (polygon_area (second_polygon path polygon)))
      ∙ exchanged_area s.before s.after polygon (first_polygon path polygon) (polygon_area (second_polygon path polygon)) parts
      ∙ ap (fold (λ so_far p. so_far +ℤ polygon_area p) (pos 0)) (sym s.is)
