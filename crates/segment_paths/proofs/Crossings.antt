-- Segments that cross have their ends beside each other's lines.
use Rattle.kit_words.proofs.Common.{ℕ, ℤ, ◌≡◌, ◌≤◌, ◌<◌, ◌+◌, ◌&&◌, Bool, false, arith, unsigned_abs, true, to_z, of_z}
use Rattle.kit_words.proofs.Common.{w64, subst, sym, ap, ◌∙◌, false≢true, ints}
use Rattle.grid_geometry.specs.Common.{Position, position, InRange, Segment, cross, orientation, are_split}
use Rattle.grid_geometry.specs.Common.{are_opposite}
use Rattle.segment_paths.specs.Common.{beside, beside_lesser_end, whole, IsRoundedBetween, IsRoundedCrossing}
use Rattle.segment_paths.proofs.Widths.{narrow_is}

second : (a b : Bool) → (a && b) ≡ true → b ≡ true
second true b h = h
second false b h = absurd (false≢true h)

opposite_some : (u v : ℤ) → are_opposite u v ≡ true → 0 < unsigned_abs u + unsigned_abs v
opposite_some u v h = grind (arith, ints)

pub crossing_some : (s t : Segment) → cross s t ≡ true → 0 < whole s t
unfolding cross are_split
crossing_some s t h =
    opposite_some (orientation t.lo t.hi s.lo) (orientation t.lo t.hi s.hi)
    (second (are_split t.lo t.hi s.lo s.hi) (are_split s.lo s.hi t.lo t.hi) h)

pub in_range : (x y : ℤ) → unsigned_abs x ≤ 1000000000000 → unsigned_abs y ≤ 1000000000000
    → InRange (position (to_z w64 (of_z w64 x)) (to_z w64 (of_z w64 y)))
in_range x y hx hy = record { across = omega (arith, ints); upward = omega (arith, ints) }

-- numbers read from their bits
pub read_between : (a b a' b' z : ℤ) (p w : ℕ) → a ≡ a' → b ≡ b' → unsigned_abs a' ≤ 1000000000000 → unsigned_abs b' ≤ 1000000000000
    → IsRoundedBetween (to_z w64 (of_z w64 a)) (to_z w64 (of_z w64 b)) p w z → IsRoundedBetween a' b' p w z
read_between a b a' b' z p w ea eb ha hb r =
    let fa : to_z w64 (of_z w64 a) ≡ a' = omega (arith, ints) in
    let fb : to_z w64 (of_z w64 b) ≡ b' = omega (arith, ints) in
    subst (λ u. IsRoundedBetween u b' p w z) fa (subst (λ v. IsRoundedBetween (to_z w64 (of_z w64 a)) v p w z) fb r)

pub is_crossing : (s t : Segment) (q : Position) (x y : ℤ) (b r : ℕ) → b ≡ beside t s.lo → r ≡ beside t s.hi
    → IsRoundedBetween s.lo.x s.hi.x b (b + r) x → IsRoundedBetween s.lo.y s.hi.y b (b + r) y
    → unsigned_abs x ≤ 1000000000000 → unsigned_abs y ≤ 1000000000000
    → q ≡ position (to_z w64 (of_z w64 x)) (to_z w64 (of_z w64 y)) → IsRoundedCrossing s t q
is_crossing s t q x y b r eb er hx hy bx by e =
    let fx : x ≡ q.x = sym (ap (λ p. p.x) e ∙ narrow_is x (omega arith)) in
    let fy : y ≡ q.y = sym (ap (λ p. p.y) e ∙ narrow_is y (omega arith)) in
    record {
      across = subst (IsRoundedBetween s.lo.x s.hi.x (beside_lesser_end s t) (whole s t)) fx (placed s.lo.x s.hi.x x hx);
      upward = subst (IsRoundedBetween s.lo.y s.hi.y (beside_lesser_end s t) (whole s t)) fy (placed s.lo.y s.hi.y y hy);
    }
  where
    placed : (u v z : ℤ) → IsRoundedBetween u v b (b + r) z → IsRoundedBetween u v (beside_lesser_end s t) (whole s t) z
    placed u v z h =
        subst (λ n. IsRoundedBetween u v (beside_lesser_end s t) (beside_lesser_end s t + n) z) er
        (subst (λ m. IsRoundedBetween u v m (m + r) z) eb h)
