-- The areas of the two parts of a ring, of a polygon and of a feature add up.
use Rattle.kit_words.proofs.Common.{◌≡◌, ℤ, ◌+ℤ◌, ◌-ℤ◌, Bool, true, false, refl, sym, ap, ap₂, ◌∙◌, List, [], ◌∷◌, ◌++◌}
use Rattle.kit_words.proofs.Common.{cond, arith, pos, not, unsigned_abs, filter, fold, ints, fold-append, and_parts}
use Rattle.kit_words.proofs.Common.{not-false}
use Rattle.grid_geometry.specs.Common.{Position, total_area, signed_area}
use Rattle.ring_machine.specs.Common.{canonical, Path, first_part, second_part, same_sign, goes_first, is_wrong_side}
use Rattle.ring_machine.specs.Common.{first_polygon, second_polygon, absolute_area, polygon_area}
use Rattle.ring_machine.proofs.Areas.{total_area_swap}
use Rattle.ring_machine.proofs.CutRings.{CutRing, first_is, second_is, rotated_edges, canonical_turns}
use Rattle.ring_machine.proofs.Spots.{Rotated}
use Rattle.ring_machine.proofs.Walks.{cut_area}

-- ---- rings

-- a turned ring has the same area
pub signed_area-turned : (ps qs : List Position) → Rotated ps qs → signed_area ps ≡ signed_area qs
signed_area-turned ps qs r =
    let turned = rotated_edges ps qs r in
    ap total_area turned.from ∙ total_area_swap turned.us turned.vs ∙ sym (ap total_area turned.to)

-- the signed areas of the two parts add up to that of the ring
pub parts_area : (ring : List Position) (path : Path) → CutRing ring path.first path.last
    → signed_area (first_part ring path) +ℤ signed_area (second_part ring path) ≡ signed_area ring
parts_area ring path c =
    ap₂ (λ y z. signed_area y +ℤ signed_area z) (first_is ring path c) (second_is ring path c)
    ∙ cut_area path.first path.last c.xs c.ys path.inner
    ∙ sym (signed_area-turned ring _ c.turned)

-- ---- polygons

absolute_sum : (a b c : ℤ) → a +ℤ b ≡ c → same_sign a c ≡ true → same_sign b c ≡ true
    → pos (unsigned_abs a) +ℤ pos (unsigned_abs b) ≡ pos (unsigned_abs c)
absolute_sum a b c e h k = grind (arith, ints)

pub absolute_area-canonical : (ring : List Position)
    → absolute_area (canonical ring) ≡ absolute_area ring
absolute_area-canonical ring = ap (λ z. pos (unsigned_abs z)) (sym (signed_area-turned ring (canonical ring) (canonical_turns ring)))

-- the area x less those of the holes
abbrev less : ℤ → List (List Position) → ℤ
less x holes = fold (λ so_far hole. so_far -ℤ absolute_area hole) x holes

-- each hole is taken from the one part or from the other
shared_holes : (test : List Position → Bool) (x y : ℤ) (holes : List (List Position))
    → less x (filter test holes) +ℤ less y (filter (λ h. not (test h)) holes) ≡ less (x +ℤ y) holes
shared_holes test x y [] = refl
shared_holes test x y (h ∷ holes) = by (test h) (λ a b. shared_holes test a b holes)
  where
    move_left : (a b c : ℤ) → (a -ℤ c) +ℤ b ≡ (a +ℤ b) -ℤ c
    move_left a b c = omega (arith, ints)

    move_right : (a b c : ℤ) → a +ℤ (b -ℤ c) ≡ (a +ℤ b) -ℤ c
    move_right a b c = omega (arith, ints)

    by : (b : Bool)
        → ((a b : ℤ) → less a (filter test holes) +ℤ less b (filter (λ h. not (test h)) holes) ≡ less (a +ℤ b) holes)
        → less x (cond b (h ∷ filter test holes) (filter test holes)) +ℤ less y (cond (not b) (h ∷ filter (λ h. not (test h)) holes) (filter (λ h. not (test h)) holes))
        ≡ less ((x +ℤ y) -ℤ absolute_area h) holes
    by true rest = rest (x -ℤ absolute_area h) y ∙ ap (λ z. less z holes) (move_left x y (absolute_area h))
    by false rest = rest x (y -ℤ absolute_area h) ∙ ap (λ z. less z holes) (move_right x y (absolute_area h))

-- where both parts lie on the ring's side, the areas of the two polygons add up
pub polygons_area : (path : Path) (outer : List Position) (holes : List (List Position))
    → CutRing outer path.first path.last → is_wrong_side path (outer ∷ holes) ≡ false →
    polygon_area (first_polygon path (outer ∷ holes)) +ℤ polygon_area (second_polygon path (outer ∷ holes)) ≡ polygon_area (outer ∷ holes)
polygons_area path outer holes c h =
    let first = first_part outer path in
    let second = second_part outer path in
    let signs = and_parts (same_sign (signed_area first) (signed_area outer)) (same_sign (signed_area second) (signed_area outer)) (not-false _ h) in
    shared_holes (goes_first first) (absolute_area (canonical first)) (absolute_area (canonical second)) holes
    ∙ ap (λ z. less z holes) (ap₂ (λ y z. y +ℤ z) (absolute_area-canonical first) (absolute_area-canonical second) ∙ absolute_sum (signed_area first) (signed_area second) (signed_area outer) (parts_area outer path c) signs.0 signs.1)

-- ---- the sum over polygons

-- the area x and those of the polygons
abbrev more : ℤ → List (List (List Position)) → ℤ
more x polygons = fold (λ so_far polygon. so_far +ℤ polygon_area polygon) x polygons

more-plus : (x y : ℤ) (polygons : List (List (List Position)))
    → more x polygons +ℤ y ≡ more (x +ℤ y) polygons
more-plus x y [] = refl
more-plus x y (p ∷ polygons) = more-plus (x +ℤ polygon_area p) y polygons ∙ ap (λ z. more z polygons) (turn x (polygon_area p) y)
  where
    turn : (a b c : ℤ) → (a +ℤ b) +ℤ c ≡ (a +ℤ c) +ℤ b
    turn a b c = omega (arith, ints)

-- a polygon in the place of another, and the rest of its area
pub exchanged_area : (before after : List (List (List Position))) (old new : List (List Position)) (rest : ℤ)
    → polygon_area new +ℤ rest ≡ polygon_area old
    → more (pos 0) (before ++ new ∷ after) +ℤ rest ≡ more (pos 0) (before ++ old ∷ after)
exchanged_area before after old new rest e =
    ap (λ z. z +ℤ rest) (fold-append _ (pos 0) before (new ∷ after))
    ∙ more-plus (more (pos 0) before +ℤ polygon_area new) rest after
    ∙ ap (λ z. more z after) (join (more (pos 0) before) (polygon_area new) rest (polygon_area old) e)
    ∙ sym (fold-append _ (pos 0) before (old ∷ after))
  where
    join : (a b c d : ℤ) → b +ℤ c ≡ d → (a +ℤ b) +ℤ c ≡ a +ℤ d
    join a b c d e = omega (arith, ints)
