-- How long the parts of a ring are.
use Rattle.kit_words.proofs.Common.{◌≡◌, suc, ◌+◌, ◌≤◌, Bool, true, false, cond, List, [], ◌∷◌, length, get_or, map}
use Rattle.kit_words.proofs.Common.{reverse, refl, sym, ap, ap₂, arith, ◌&&◌, ◌-◌, not, filter, take, drop, take_all, length-reverse}
use Rattle.std.proofs.Common.{length-append}
use Rattle.grid_geometry.specs.Common.{signed_area, Position, position_eq}
use Rattle.ring_machine.specs.Common.{before, from, begin_at, stretch, Path, first_part, second_part, same_sign}
use Rattle.ring_machine.specs.Common.{is_wrong_side, canonical, goes_first, second_polygon}
use Rattle.ring_parts.specs.Common.{outer_length}

before_few : (p : Position) (ps : List Position) → length (before p ps) ≤ length ps
before_few p [] = omega arith
before_few p (q ∷ qs) = by (position_eq q p) (before_few p qs)
  where
    by : (b : Bool) → length (before p qs) ≤ length qs → length (cond b [] (q ∷ before p qs)) ≤ suc (length qs)
    by true h = omega arith
    by false h = omega (arith, h)

both_all : (p : Position) (ps : List Position) → length (from p ps) + length (before p ps) ≡ length ps
both_all p [] = refl
both_all p (q ∷ qs) = by (position_eq q p) (both_all p qs)
  where
    by : (b : Bool) → length (from p qs) + length (before p qs) ≡ length qs → length (cond b (q ∷ qs) (from p qs)) + length (cond b [] (q ∷ before p qs)) ≡ suc (length qs)
    by true h = omega arith
    by false h = omega (arith, h)

stretch_few : (p q : Position) (ring : List Position) → length (stretch p q ring) ≤ length ring + 1
stretch_few p q ring =
    let turned = length-append (from p ring) (before p ring) in
    let all = both_all p ring in
    let cut = before_few q (begin_at p ring) in
    let one = length-append (before q (begin_at p ring)) (q ∷ []) in
    omega (arith, turned, all, cut, one)

pub first_few : (ring : List Position) (path : Path) → length (first_part ring path) ≤ length ring + length path.inner + 1
first_few ring path = omega (arith, length-append (stretch path.first path.last ring) (reverse path.inner), length-reverse path.inner, stretch_few path.first path.last ring)

pub second_few : (ring : List Position) (path : Path) → length (second_part ring path) ≤ length ring + length path.inner + 1
second_few ring path = omega (arith, length-append (stretch path.last path.first ring) path.inner, stretch_few path.last path.first ring)

-- the outer ring is the first
pub outer_is : {R : Type 0} (of : R → List Position) (rings : List R) (ring : R) → 1 ≤ length rings → ring ≡ get_or rings 0 ring → length (of ring) ≡ outer_length (map of rings)
outer_is of [] ring l e = absurd (omega arith)
outer_is of (r ∷ rings) ring l e = ap (λ z. length (of z)) e

-- which is the ring whose parts are tested
pub sides_of : {R : Type 0} (of : R → List Position) (path : Path) (rings : List R) (ring : R) → 1 ≤ length rings → ring ≡ get_or rings 0 ring
    → is_wrong_side path (map of rings) ≡ not (same_sign (signed_area (first_part (of ring) path)) (signed_area (of ring)) && same_sign (signed_area (second_part (of ring) path)) (signed_area (of ring)))
sides_of of path [] ring l e = absurd (omega arith)
sides_of of path (r ∷ rings) ring l e = ap (λ z. not (same_sign (signed_area (first_part (of z) path)) (signed_area (of z)) && same_sign (signed_area (second_part (of z) path)) (signed_area (of z)))) (sym e)

-- the second polygon of one from its outer ring and its holes
pub second_is : {R : Type 0} (of : R → List Position) (path : Path) (rings : List R) (ring : R) → 1 ≤ length rings → ring ≡ get_or rings 0 ring
    → second_polygon path (map of rings) ≡ canonical (second_part (of ring) path) ∷ filter (λ h. not (goes_first (first_part (of ring) path) h)) (map of (take (length rings - 1) (drop 1 rings)))
second_is of path [] ring l e = absurd (omega arith)
second_is of path (r ∷ rings) ring l e =
    ap₂ (λ z hs. canonical (second_part (of z) path) ∷ filter (λ h. not (goes_first (first_part (of z) path) h)) (map of hs)) (sym e) (sym (take_all (length (r ∷ rings) - 1) rings (omega arith)))
