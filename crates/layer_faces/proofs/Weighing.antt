-- Sums over the faces so far, one more; and what is told of the polygons so far.
use Rattle.kit_words.proofs.Common.{◌≡◌, ℕ, zero, suc, ◌+◌, ◌*◌, ◌<◌, ◌≤◌, ◌^◌, ℤ, pos, ◌+ℤ◌, ◌*ℤ◌, ◌-ℤ◌, neg_ℤ, unsigned_abs, refl, sym, ap, ap₂, ◌∙◌, subst, arith, ints, cond}
use Rattle.kit_words.proofs.Common.{replicate, List, ◌++◌, map, length, get_or, take, drop, drop_all, next_drop, append-nil, append_assoc, true, false, Bool}
use Rattle.kit_words.proofs.Common.{to_z, of_z, w128, unsigned_abs-mul}
use Rattle.std.proofs.Math.Nat.{mul-le-mul_right}
use Rattle.std.proofs.lemmas.Int.{fits_signed_from_abs, to_z-of_z}
use Rattle.std.proofs.lemmas.List.Sums.{sum_by_more, sum_by-take-le}
use Rattle.layer_sides.specs.Common.{Polygon}
use Rattle.layer_faces.specs.declared.face.Face.{Face}
use Rattle.layer_faces.specs.declared.kind.Kind.{Kind}
use Rattle.layer_faces.specs.declared.uneven.Uneven.{Uneven}
use Rattle.layer_faces.specs.Areas.{total}
use Rattle.ring_machine.specs.Common.{polygon_area}
use Rattle.layer_faces.specs.Weighed.{area_of_kinds, reach, told_beside, told_beside_all, told_if}
use Rattle.layer_faces.proofs.Totals.{total_more}
use Rattle.layer_faces.proofs.Adding.{times_near}

module _ {A : Type 0} (faces : List (Face A)) (i : ℕ) (f : Face A) (l : i < length faces) (is : f ≡ get_or faces i f) where
  -- any sum over faces
  pub more_weight : (w : Face A → ℤ) → total w (take (i + 1) faces) ≡ total w (take i faces) +ℤ w f
  more_weight w = total_more w faces i f l ∙ ap (λ g. total w (take i faces) +ℤ w g) (sym is)

  pub more_reach : reach (take (i + 1) faces) ≡ reach (take i faces) + unsigned_abs f.twice_area
  more_reach = sum_by_more (λ (g : Face _). unsigned_abs g.twice_area) faces i f l ∙ ap (λ (g : Face A). reach (take i faces) + unsigned_abs g.twice_area) (sym is)

  pub reach_within : reach (take i faces) + unsigned_abs f.twice_area ≤ reach faces
  reach_within = let e = more_reach in let h = sum_by-take-le (λ (g : Face A). unsigned_abs g.twice_area) faces (i + 1) in omega (arith, e, h)

  -- of a kind, or not
  pub kinds_more : (test : Kind → Bool) (b : Bool) → test f.kind ≡ b
      → area_of_kinds test (take (i + 1) faces) ≡ area_of_kinds test (take i faces) +ℤ cond b f.twice_area (pos 0)
  kinds_more test b e = more_weight (λ (g : Face _). cond (test g.kind) g.twice_area (pos 0)) ∙ ap (λ c. area_of_kinds test (take i faces) +ℤ cond c f.twice_area (pos 0)) e

-- an area that counts or not is no further from 0
pub kind_near : (b : Bool) (z y : ℤ) → y ≡ cond b z (pos 0) → unsigned_abs y ≤ unsigned_abs z
kind_near true z y e = omega (arith, ints)
kind_near false z y e = omega (arith, ints)

-- the area of a face is small enough to be written and read back
pub area_fits : (z : ℤ) → unsigned_abs z ≤ 16000000000000000000000000000000 → to_z w128 (of_z w128 z) ≡ z
area_fits z small = to_z-of_z w128 z (fits_signed_from_abs w128 z (omega (arith, small)))

both_near : (s y : ℤ) → unsigned_abs (s +ℤ y) ≤ unsigned_abs s + unsigned_abs y
both_near s y = omega (arith, ints)

less_near : (s y : ℤ) → unsigned_abs (s -ℤ y) ≤ unsigned_abs s + unsigned_abs y
less_near s y = omega (arith, ints)

taken_from : (t y : ℤ) → neg_ℤ t -ℤ y ≡ neg_ℤ (t +ℤ y)
taken_from t y = omega (arith, ints)

-- a sum of areas of faces, and one more that counts or not
module _ (s y z : ℤ) (r : ℕ) (near : unsigned_abs y ≤ unsigned_abs z) (few : unsigned_abs s ≤ r) (small : r + unsigned_abs z ≤ 16000000000000000000000000000000) where
  more : to_z w128 (of_z w128 (s +ℤ to_z w128 (of_z w128 y))) ≡ s +ℤ y
  more =
      let sum = both_near s y in
      ap (λ v. to_z w128 (of_z w128 (s +ℤ v))) (area_fits y (omega (arith, near, small))) ∙ area_fits (s +ℤ y) (omega (arith, sum, near, few, small))

  less : to_z w128 (of_z w128 (s -ℤ to_z w128 (of_z w128 y))) ≡ s -ℤ y
  less =
      let sum = less_near s y in
      ap (λ v. to_z w128 (of_z w128 (s -ℤ v))) (area_fits y (omega (arith, near, small))) ∙ area_fits (s -ℤ y) (omega (arith, sum, near, few, small))

  pub added : (t next : ℤ) → s ≡ t → next ≡ t +ℤ y → to_z w128 (of_z w128 (s +ℤ to_z w128 (of_z w128 y))) ≡ next
  added t next e f = more ∙ ap (λ v. v +ℤ y) e ∙ sym f

  pub added_near : (k : ℕ) → k ≡ r + unsigned_abs z → unsigned_abs (to_z w128 (of_z w128 (s +ℤ to_z w128 (of_z w128 y)))) ≤ k
  added_near k e = let sum = both_near s y in subst (λ v. unsigned_abs v ≤ k) (sym more) (omega (arith, sum, near, few, e))

  pub taken : (t next : ℤ) → s ≡ neg_ℤ t → next ≡ t +ℤ y → to_z w128 (of_z w128 (s -ℤ to_z w128 (of_z w128 y))) ≡ neg_ℤ next
  taken t next e f = less ∙ ap (λ v. v -ℤ y) e ∙ taken_from t y ∙ ap neg_ℤ (sym f)

  pub taken_near : (k : ℕ) → k ≡ r + unsigned_abs z → unsigned_abs (to_z w128 (of_z w128 (s -ℤ to_z w128 (of_z w128 y)))) ≤ k
  taken_near k e = let sum = less_near s y in subst (λ v. unsigned_abs v ≤ k) (sym less) (omega (arith, sum, near, few, e))

-- what is held too often, and what is covered with it
pub over_fits : (z : ℤ) → unsigned_abs z ≤ 64000000000000000000000000000000000000 → to_z w128 (of_z w128 z) ≡ z
over_fits z small = to_z-of_z w128 z (fits_signed_from_abs w128 z (omega (arith, small)))

pub all_fits : (s z : ℤ) → unsigned_abs s ≤ 16000000000000000000000000000000 → unsigned_abs z ≤ 64000000000000000000000000000000000000
    → to_z w128 (of_z w128 (s +ℤ to_z w128 (of_z w128 z))) ≡ s +ℤ to_z w128 (of_z w128 z)
all_fits s z few small =
    let sum = both_near s z in
    let fits : unsigned_abs (s +ℤ z) < 2 ^ 127 = omega (arith, sum, few, small) in
    to_z-of_z w128 (s +ℤ to_z w128 (of_z w128 z))
    (fits_signed_from_abs w128 (s +ℤ to_z w128 (of_z w128 z)) (subst (λ v. unsigned_abs (s +ℤ v) < 2 ^ 127) (sym (over_fits z small)) fits))

-- an area as often as k
pub often_small : (k : ℕ) (z : ℤ) → k ≤ 4000000 → unsigned_abs (pos k *ℤ z) ≤ 4000000 * unsigned_abs z
often_small k z few =
    let part : unsigned_abs (pos k *ℤ z) ≡ k * unsigned_abs z = unsigned_abs-mul (pos k) z in
    let grows = mul-le-mul_right {m = k} {n = 4000000} (unsigned_abs z) few in
    omega (arith, part, grows)

pub often_is : (k : ℕ) (x y z : ℤ) → k ≤ 4000000 → unsigned_abs z ≤ 16000000000000000000000000000000 → x ≡ pos k → y ≡ z
    → to_z w128 (of_z w128 (x *ℤ y)) ≡ pos k *ℤ z
often_is k x y z few small e f =
    let near = often_small k z few in
    let is : x *ℤ y ≡ pos k *ℤ z = ap₂ ◌*ℤ◌ e f in
    ap (λ v. to_z w128 (of_z w128 v)) is ∙ to_z-of_z w128 (pos k *ℤ z) (fits_signed_from_abs w128 (pos k *ℤ z) (omega (arith, near, small)))

-- room for the area of one more face in each sum
pub room_left : (r a len : ℕ) (z : ℤ) → unsigned_abs z ≤ 4000000 * r → len ≤ 4000000 → r + a ≤ 16000000000000000000000000000000
    → unsigned_abs z + len * a < 2 ^ 127
room_left r a len z h few small = let grows = mul-le-mul_right {m = len} {n = 4000000} a few in omega (arith, grows)

pub bound_more : (r a c : ℕ) (y z w : ℤ) → a ≡ unsigned_abs z → unsigned_abs y ≤ 4000000 * r → c ≤ 4000000 → w ≡ y +ℤ pos c *ℤ z
    → unsigned_abs w ≤ 4000000 * (r + a)
bound_more r a c y z w same h few e =
    let here = times_near c y z w e in
    let grows = mul-le-mul_right {m = c} {n = 4000000} (unsigned_abs z) few in
    omega (arith, here, grows, same)

-- ---- what is told of polygons

-- of the rest of the polygons first what is told of the next one
pub told_next : {X : Type 0} (seen : X → Polygon) (found more : List Uneven) (ps : List X) (zs : List ℤ) (i : ℕ) (p : X) (z : ℤ) (all : List Uneven)
    → i < length ps → p ≡ get_or ps i p → i < length zs → z ≡ get_or zs i z
    → more ≡ found ++ told_beside i (seen p) z
    → found ++ told_beside_all i (map seen (drop i ps)) (drop i zs) ≡ all
    → more ++ told_beside_all (i + 1) (map seen (drop (i + 1) ps)) (drop (i + 1) zs) ≡ all
told_next seen found more ps zs i p z all l e k f added h =
    let rest = told_beside_all (i + 1) (map seen (drop (i + 1) ps)) (drop (i + 1) zs) in
    let after : suc i ≡ i + 1 = omega arith in
    let next : told_beside_all i (map seen (drop i ps)) (drop i zs) ≡ told_beside i (seen p) z ++ rest =
    ap₂ (λ qs ys. told_beside_all i (map seen qs) ys) (next_drop ps i p l e) (next_drop zs i z k f)
    ∙ ap (λ j. told_beside i (seen p) z ++ told_beside_all j (map seen (drop (i + 1) ps)) (drop (i + 1) zs)) after in
    ap (λ (us : List Uneven). us ++ rest) added ∙ append_assoc found (told_beside i (seen p) z) rest ∙ ap (λ (us : List Uneven). found ++ us) (sym next) ∙ h

-- a polygon that is told with these areas
pub told_same : (found more : List Uneven) (i : ℕ) (p : Polygon) (a b z : ℤ) → a ≡ polygon_area p → b ≡ z
    → more ≡ found ++ told_if (record { polygon = i; by_rings = a; even_odd = b }) → more ≡ found ++ told_beside i p z
told_same found more i p a b z e f h =
    h ∙ ap₂ (λ (y x : ℤ). found ++ told_if (record { polygon = i; by_rings = y; even_odd = x })) e f

-- nothing is told of the rest where nothing is left
pub told_all : {X : Type 0} (seen : X → Polygon) (found all : List Uneven) (ps : List X) (zs : List ℤ) (i : ℕ) → length ps ≤ i
    → found ++ told_beside_all i (map seen (drop i ps)) (drop i zs) ≡ all → found ≡ all
told_all seen found all ps zs i l h =
    sym (append-nil found) ∙ ap (λ qs. found ++ told_beside_all i (map seen qs) (drop i zs)) (sym (drop_all i ps l)) ∙ h

-- ---- before any face

pub zeros_at : (n k : ℕ) → get_or (replicate n (pos 0)) k (pos 0) ≡ pos 0
zeros_at zero k = refl
zeros_at (suc n) zero = refl
zeros_at (suc n) (suc k) = zeros_at n k

pub zeros_total : (n : ℕ) → total (λ z. z) (replicate n (pos 0)) ≡ pos 0
zeros_total zero = refl
zeros_total (suc n) = let e = zeros_total n in omega (arith, ints)
