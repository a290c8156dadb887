-- Sums over faces are sums over their sides, and those over all sides are 0.
use Rattle.kit_words.proofs.Common.{◌≡◌, ℕ, suc, ◌-◌, ◌<◌, ℤ, pos, ◌+ℤ◌, ◌*ℤ◌, neg_ℤ, Bool, true, false, refl, sym, ap, ap₂, ◌∙◌, arith, ints, cond, eqb}
use Rattle.kit_words.proofs.Common.{List, [], ◌∷◌, ◌++◌, map, length, get_or}
use Rattle.std.proofs.Math.IntN.{*ℤ_comm, *ℤ-one, zero-*ℤ, +ℤ_comm, suc_ℤ-*ℤ}
use Rattle.std.specs.List.{count_by, flat_map}
use Rattle.grid_geometry.specs.Common.{Position, Segment, area_term}
use Rattle.layer_sides.specs.Common.{Polygon, Side, Left, Right, bottom, top, holders, holds}
use Rattle.layer_faces.specs.declared.kind.Kind.{Kind}
use Rattle.layer_faces.specs.declared.kind.Kind.TheVariants.{Overlap, Twice, Gap, Lake, Land, Outside}
use Rattle.layer_faces.specs.declared.sums.Sums.{Sums}
use Rattle.layer_faces.specs.declared.uneven.Uneven.{Uneven}
use Rattle.layer_faces.specs.Common.{all_sides, area_at, side_term, total, AreFaces, FaceOf, IsFace, IsKind, by_holders, outside}
use Rattle.layer_faces.specs.Common.{AddUp, AreSums, area_of_kind, is_any, is_gap, is_held, is_outside, uneven_from, uneven_of}
use Rattle.layer_faces.specs.Weighed.{is_land, told_beside_all}
use Rattle.layer_faces.proofs.Totals.{total-map, total-flat_map, total_permuted, total_same, total_alike, total_both, total_times}
use Rattle.layer_faces.proofs.Numbered.{counted_once}

-- ---- one or none

abbrev pub at_most_once : List ℕ → ℤ
at_most_once [] = pos 0
at_most_once (n ∷ ns) = pos 1

no_times : (z : ℤ) → pos 0 *ℤ z ≡ pos 0
no_times z = zero-*ℤ z

one_times : (z : ℤ) → pos 1 *ℤ z ≡ z
unfolding lib.IntN.one
one_times z = *ℤ_comm (pos 1) z ∙ *ℤ-one z

once_if_any : (ns : List ℕ) (z : ℤ) → at_most_once ns *ℤ z ≡ cond (is_any ns) z (pos 0)
once_if_any [] z = no_times z
once_if_any (n ∷ ns) z = one_times z

one_more_times : (n : ℕ) (z : ℤ) → z +ℤ pos n *ℤ z ≡ pos (suc n) *ℤ z
one_more_times n z = +ℤ_comm z (pos n *ℤ z) ∙ sym (suc_ℤ-*ℤ (pos n) z)

split_times : (ns : List ℕ) (z : ℤ) → at_most_once ns *ℤ z +ℤ pos (length ns - 1) *ℤ z ≡ pos (length ns) *ℤ z
split_times [] z = omega (arith, ints, no_times z)
split_times (n ∷ ns) z =
    let less : suc (length ns) - 1 ≡ length ns = omega arith in
    rw (less, one_times z) (one_more_times (length ns) z)

-- ---- kinds

land_if_any : (hs fs : List ℕ) (kind : Kind) → IsKind hs fs kind → (z : ℤ) → cond (is_land kind) z (pos 0) ≡ at_most_once hs *ℤ z
land_if_any hs fs kind (outside none is) z = rw (is, none) (sym (no_times z))
land_if_any [] fs kind (by_holders is) z = rw is (by (eqb (length fs) 1))
  where
    by : (b : Bool) → cond (is_land (cond b Lake Gap)) z (pos 0) ≡ pos 0 *ℤ z
    by true = sym (no_times z)
    by false = sym (no_times z)
land_if_any (n ∷ []) fs kind (by_holders is) z = rw is (sym (one_times z))
land_if_any (n ∷ m ∷ ns) fs kind (by_holders is) z = rw is (by (eqb (length fs) 1))
  where
    by : (b : Bool) → cond (is_land (cond b Twice Overlap)) z (pos 0) ≡ pos 1 *ℤ z
    by true = sym (one_times z)
    by false = sym (one_times z)

each_kind : (kind : Kind) (z : ℤ) → cond (is_land kind) z (pos 0) +ℤ (cond (is_gap kind) z (pos 0) +ℤ cond (is_outside kind) z (pos 0)) ≡ z
each_kind Overlap z = omega (arith, ints)
each_kind Twice z = omega (arith, ints)
each_kind Gap z = omega (arith, ints)
each_kind Lake z = omega (arith, ints)
each_kind Land z = omega (arith, ints)
each_kind Outside z = omega (arith, ints)

-- ---- all sides

there_and_back : (p q : Position) → area_term p q +ℤ area_term q p ≡ pos 0
there_and_back p q = omega (arith, ints)

cancel : (a b z : ℤ) → a +ℤ b ≡ pos 0 → z ≡ pos 0 → a +ℤ (b +ℤ z) ≡ pos 0
cancel a b z e f = omega (arith, ints)

pub sides_cancel : (ss : List Segment) → total side_term (all_sides ss) ≡ pos 0
sides_cancel [] = refl
sides_cancel (s ∷ ss) = cancel (side_term (s, Left)) (side_term (s, Right)) _ (there_and_back (bottom s) (top s)) (sides_cancel ss)

-- ---- faces

module _ (layer : List Polygon) (owners : List ℕ) where
  of_face : (g : List ℕ → ℤ) (f : FaceOf) → IsFace layer owners f
      → total (λ (a : Side). g (holders layer a) *ℤ side_term a) f.sides ≡ g f.holders *ℤ f.area
  of_face g f is =
      total_same (λ (a : Side). g (holders layer a) *ℤ side_term a) (λ (a : Side). g f.holders *ℤ side_term a) f.sides
      (λ k d l. ap (λ (ns : List ℕ). g ns *ℤ side_term (get_or f.sides k d)) (is.held k d l))
      ∙ total_times (g f.holders) side_term f.sides
      ∙ ap (λ z. g f.holders *ℤ z) (sym is.area)

  module _ (ss : List Segment) (faces : List FaceOf) (are : AreFaces layer owners ss faces) where
    pub by_faces : (g : List ℕ → ℤ) → total (λ (f : FaceOf). g f.holders *ℤ f.area) faces ≡ total (λ (a : Side). g (holders layer a) *ℤ side_term a) (all_sides ss)
    by_faces g =
        let t : Side → ℤ = λ a. g (holders layer a) *ℤ side_term a in
        total_same (λ (f : FaceOf). g f.holders *ℤ f.area) (λ (f : FaceOf). total t f.sides) faces (λ k d l. sym (of_face g (get_or faces k d) (are.each k d l)))
        ∙ sym (total-flat_map t (λ (f : FaceOf). f.sides) faces)
        ∙ total_permuted t (all_sides ss) (flat_map (λ (f : FaceOf). f.sides) faces) are.all

    -- all faces, the outside among them, have no area together
    pub faces_cancel : total (λ (f : FaceOf). f.area) faces ≡ pos 0
    faces_cancel =
        total_alike (λ (f : FaceOf). f.area) (λ (f : FaceOf). pos 1 *ℤ f.area) (λ (f : FaceOf). sym (one_times f.area)) faces
        ∙ by_faces (λ (ns : List ℕ). pos 1)
        ∙ total_alike (λ (a : Side). pos 1 *ℤ side_term a) side_term (λ (a : Side). one_times (side_term a)) (all_sides ss)
        ∙ sides_cancel ss

    -- what is covered, by the kinds of faces, is what is held
    land_once : area_of_kind is_land faces ≡ total (λ (f : FaceOf). at_most_once f.holders *ℤ f.area) faces
    land_once =
        total_same (λ (f : FaceOf). cond (is_land f.kind) f.area (pos 0)) (λ (f : FaceOf). at_most_once f.holders *ℤ f.area) faces
        (λ k d l. let f = get_or faces k d in let is = are.each k d l in land_if_any f.holders f.features f.kind is.kind f.area)

    pub land_held : area_of_kind is_land faces ≡ area_at (is_held layer) ss
    land_held =
        land_once ∙ by_faces at_most_once
        ∙ total_alike (λ (a : Side). at_most_once (holders layer a) *ℤ side_term a) (λ (a : Side). cond (is_held layer a) (side_term a) (pos 0))
        (λ (a : Side). once_if_any (holders layer a) (side_term a)) (all_sides ss)

    -- what is covered and what is held too often, is what the holders have
    pub land_and_over : area_of_kind is_land faces +ℤ total (λ (f : FaceOf). pos (length f.holders - 1) *ℤ f.area) faces
        ≡ total (λ (f : FaceOf). pos (length f.holders) *ℤ f.area) faces
    land_and_over =
        ap (λ z. z +ℤ total (λ (f : FaceOf). pos (length f.holders - 1) *ℤ f.area) faces) land_once
        ∙ sym (total_both (λ (f : FaceOf). at_most_once f.holders *ℤ f.area) (λ (f : FaceOf). pos (length f.holders - 1) *ℤ f.area) faces)
        ∙ total_alike (λ (f : FaceOf). at_most_once f.holders *ℤ f.area +ℤ pos (length f.holders - 1) *ℤ f.area) (λ (f : FaceOf). pos (length f.holders) *ℤ f.area)
        (λ (f : FaceOf). split_times f.holders f.area) faces

    -- what is covered, the gaps and the outside have no area together
    pub kinds_cancel : area_of_kind is_land faces +ℤ (area_of_kind is_gap faces +ℤ area_of_kind is_outside faces) ≡ pos 0
    kinds_cancel =
        ap (λ z. area_of_kind is_land faces +ℤ z)
        (sym (total_both (λ (f : FaceOf). cond (is_gap f.kind) f.area (pos 0)) (λ (f : FaceOf). cond (is_outside f.kind) f.area (pos 0)) faces))
        ∙ sym (total_both (λ (f : FaceOf). cond (is_land f.kind) f.area (pos 0)) (λ (f : FaceOf). cond (is_gap f.kind) f.area (pos 0) +ℤ cond (is_outside f.kind) f.area (pos 0)) faces)
        ∙ total_alike (λ (f : FaceOf). cond (is_land f.kind) f.area (pos 0) +ℤ (cond (is_gap f.kind) f.area (pos 0) +ℤ cond (is_outside f.kind) f.area (pos 0))) (λ (f : FaceOf). f.area)
        (λ (f : FaceOf). each_kind f.kind f.area) faces
        ∙ faces_cancel

    -- the faces that a polygon holds are what it holds by the even-odd rule
    counted_if : (b : Bool) (z : ℤ) (n : ℕ) → n ≡ cond b 1 0 → pos n *ℤ z ≡ cond b z (pos 0)
    counted_if true z n e = rw e (one_times z)
    counted_if false z n e = rw e (no_times z)

    pub holder_has : (i : ℕ) (d : Polygon) → i < length layer
        → total (λ (f : FaceOf). pos (count_by (λ (m : ℕ). eqb m i) f.holders) *ℤ f.area) faces ≡ area_at (holds (get_or layer i d)) ss
    holder_has i d l =
        by_faces (λ (ns : List ℕ). pos (count_by (λ (m : ℕ). eqb m i) ns))
        ∙ total_alike (λ (a : Side). pos (count_by (λ (m : ℕ). eqb m i) (holders layer a)) *ℤ side_term a) (λ (a : Side). cond (holds (get_or layer i d) a) (side_term a) (pos 0))
        (λ (a : Side). counted_if (holds (get_or layer i d) a) (side_term a) _ (here a)) (all_sides ss)
      where
        here : (a : Side) → count_by (λ (m : ℕ). eqb m i) (holders layer a) ≡ cond (holds (get_or layer i d) a) 1 0
        here a = counted_once 0 i i (λ (p : Polygon). holds p a) layer d (omega arith) l

-- ---- by polygon

pub same_by_index : (xs ys : List ℤ) → length xs ≡ length ys → ((i : ℕ) → i < length ys → get_or xs i (pos 0) ≡ get_or ys i (pos 0)) → xs ≡ ys
same_by_index [] [] e h = refl
same_by_index [] (y ∷ ys) e h = absurd (omega arith)
same_by_index (x ∷ xs) [] e h = absurd (omega arith)
same_by_index (x ∷ xs) (y ∷ ys) e h =
    ap₂ (λ (z : ℤ) (zs : List ℤ). z ∷ zs) (h 0 (omega arith)) (same_by_index xs ys (omega arith) (λ i l. h (suc i) (omega arith)))

pub told_even : (ss : List Segment) (n : ℕ) (ps : List Polygon) → told_beside_all n ps (map (λ (p : Polygon). area_at (holds p) ss) ps) ≡ uneven_from ss n ps
told_even ss n [] = refl
told_even ss n (p ∷ ps) = ap (λ (us : List Uneven). uneven_of ss n p ++ us) (told_even ss (suc n) ps)

-- ---- the sums

sub_from : (a b c s : ℤ) → a +ℤ (b +ℤ c) ≡ pos 0 → s ≡ neg_ℤ c → s ≡ a +ℤ b
sub_from a b c s e f = omega (arith, ints)

module _ (layer : List Polygon) (owners : List ℕ) (ss : List Segment) (faces : List FaceOf) (are : AreFaces layer owners ss faces)
    (areas : List ℤ) (s : Sums) (even : areas ≡ map (λ (p : Polygon). area_at (holds p) ss) layer)
    (all : total (λ z. z) areas ≡ total (λ (f : FaceOf). pos (length f.holders) *ℤ f.area) faces)
    (polygons : s.polygons ≡ s.covered +ℤ s.over)
    (over : s.over ≡ total (λ (f : FaceOf). pos (length f.holders - 1) *ℤ f.area) faces)
    (covered : s.covered ≡ area_of_kind is_land faces)
    (gaps : s.gaps ≡ area_of_kind is_gap faces)
    (within : s.within ≡ neg_ℤ (area_of_kind is_outside faces)) where
  pub sums_are : AreSums layer ss faces s
  sums_are = record {
    polygons = polygons ∙ ap₂ ◌+ℤ◌ covered over ∙ land_and_over layer owners ss faces are ∙ sym all
        ∙ ap (total (λ z. z)) even ∙ total-map (λ z. z) (λ (p : Polygon). area_at (holds p) ss) layer;
    over = over ∙ by_faces layer owners ss faces are (λ (ns : List ℕ). pos (length ns - 1));
    covered = covered ∙ land_held layer owners ss faces are;
    gaps = gaps;
    within = within;
  }

  pub add_up : AddUp s
  add_up = record {
    polygons = polygons;
    within = sub_from _ _ _ _ (kinds_cancel layer owners ss faces are) within ∙ sym (ap₂ ◌+ℤ◌ covered gaps);
  }
