-- Levels: which of two positions comes first, and that an edge counts for a position exactly where it is under way at its level and has
-- it strictly on its left.
use Rattle.kit_words.proofs.Common.{ℤ, pos, int_cmp, ordering_then, Less, ◌≡◌, ◌+ℤ◌, ◌-ℤ◌, ◌*ℤ◌, ◌≤ℤ◌, ◌<ℤ◌, neg_ℤ, ◌+◌, arith, Bool, true, false, cond}
use Rattle.kit_words.proofs.Common.{◌&&◌, ◌||◌, not, ap, ◌∙◌, refl, sym, ints, by_lt_z, int_lt, int_eq, if◌then◌else◌}
use borrow.Author.Differences.{up, down}
use Rattle.grid_geometry.specs.Common.{Position, Segment, IsSegment, orientation, is_counted, position_eq}
use Rattle.grid_geometry.proofs.Algebra.{down_up, down_down}
use Rattle.grid_geometry.proofs.Balances.{turn}
use Rattle.grid_geometry.proofs.HeldLaw.{side, moved_below, moved_turn}
use Rattle.grid_geometry.proofs.Turns.{orientation-reverse}
use Rattle.layer_sides.specs.Common.{level_lt, bottom, top, is_under_way}
use Rattle.layer_sides.proofs.Crossing.{tilted, heights}

-- ---- with w at the origin
abbrev begun : ℤ → ℤ → Bool
begun a1 a2 = not (int_lt (pos 0) a2 || (int_eq (pos 0) a2 && int_lt a1 (pos 0)))

abbrev goes_on : ℤ → ℤ → Bool
goes_on b1 b2 = int_lt (pos 0) b2 || (int_eq (pos 0) b2 && int_lt b1 (pos 0))

above : (a1 a2 b1 b2 s : ℤ) → pos 0 <ℤ a2 → a2 ≤ℤ b2
    → side a2 b2 s ≡ ((begun a1 a2 && goes_on b1 b2) && int_lt (pos 0) s)
above a1 a2 b1 b2 s ha hab = grind (arith, ints)

rising : (a1 a2 b1 b2 s : ℤ) → a2 ≤ℤ pos 0 → pos 0 <ℤ b2 → (a2 ≡ pos 0 → a1 <ℤ pos 0 → s ≤ℤ pos 0)
    → side a2 b2 s ≡ ((begun a1 a2 && goes_on b1 b2) && int_lt (pos 0) s)
rising a1 a2 b1 b2 s ha hb h = grind (arith, ints)

below : (a1 a2 b1 b2 s : ℤ) → a2 ≤ℤ pos 0 → b2 ≤ℤ pos 0 → (b2 ≡ pos 0 → b1 <ℤ pos 0 → s ≤ℤ pos 0)
    → side a2 b2 s ≡ ((begun a1 a2 && goes_on b1 b2) && int_lt (pos 0) s)
below a1 a2 b1 b2 s ha hb h = grind (arith, ints)

begins_left : (a1 a2 b1 b2 : ℤ) → pos 0 <ℤ b2 → a2 ≡ pos 0 → a1 <ℤ pos 0 → turn a1 a2 b1 b2 ≤ℤ pos 0
begins_left a1 a2 b1 b2 hb e h = omega (arith, ints, down_up a1 b2 (omega (arith, ints)) (omega (arith, ints)), ap (λ z. z *ℤ b1) e, ap (λ z. b1 *ℤ z) e)

ends_left : (a1 a2 b1 b2 : ℤ) → a2 ≤ℤ pos 0 → b2 ≡ pos 0 → b1 <ℤ pos 0 → turn a1 a2 b1 b2 ≤ℤ pos 0
ends_left a1 a2 b1 b2 ha e h = omega (arith, ints, down_down a2 b1 ha (omega (arith, ints)), down_down b1 a2 (omega (arith, ints)) ha, ap (λ z. a1 *ℤ z) e, ap (λ z. z *ℤ a1) e)

at_origin : (a1 a2 b1 b2 : ℤ) → a2 ≤ℤ b2
    → side a2 b2 (turn a1 a2 b1 b2) ≡ ((begun a1 a2 && goes_on b1 b2) && int_lt (pos 0) (turn a1 a2 b1 b2))
at_origin a1 a2 b1 b2 hab =
    by_lt_z (pos 0) a2
    (λ (ha : pos 0 <ℤ a2). above a1 a2 b1 b2 (turn a1 a2 b1 b2) ha hab)
    (λ (ha : a2 ≤ℤ pos 0). by_lt_z (pos 0) b2
    (λ (hb : pos 0 <ℤ b2). rising a1 a2 b1 b2 (turn a1 a2 b1 b2) ha hb (begins_left a1 a2 b1 b2 hb))
    (λ (hb : b2 ≤ℤ pos 0). below a1 a2 b1 b2 (turn a1 a2 b1 b2) ha hb (ends_left a1 a2 b1 b2 ha)))

-- ---- from the origin to w
moved_level : (wx wy px py : ℤ)
    → (int_lt wy py || (int_eq wy py && int_lt px wx))
    ≡ (int_lt (pos 0) (py -ℤ wy) || (int_eq (pos 0) (py -ℤ wy) && int_lt (px -ℤ wx) (pos 0)))
moved_level wx wy px py = grind (arith, ints)

moved_order : (z a b : ℤ) → a ≤ℤ b → (a -ℤ z) ≤ℤ (b -ℤ z)
moved_order z a b h = omega (arith, ints)

-- an edge that rises counts for w where w is at its levels and strictly on its left
pub counts_under_way : (w a b : Position) → a.y ≤ℤ b.y
    → is_counted w a b ≡ ((not (level_lt w a) && level_lt w b) && int_lt (pos 0) (orientation a b w))
counts_under_way w a b h =
    rw (moved_level w.x w.y a.x a.y, moved_level w.x w.y b.x b.y, moved_below w.y a.y, moved_below w.y b.y, moved_turn a b w)
    (at_origin (a.x -ℤ w.x) (a.y -ℤ w.y) (b.x -ℤ w.x) (b.y -ℤ w.y) (moved_order w.y a.y b.y h))

-- the direction of an edge does not matter
counts_back : (w a b : Position) → is_counted w a b ≡ is_counted w b a
counts_back w a b =
    back (int_lt w.y a.y) (int_lt w.y b.y) (orientation a b w)
    ∙ ap (λ z. cond (int_lt w.y b.y) (cond (int_lt w.y a.y) false (int_lt z (pos 0))) (cond (int_lt w.y a.y) (int_lt (pos 0) z) false)) (sym (orientation-reverse a b w))
  where
    is_below : (o : ℤ) → int_lt o (pos 0) ≡ int_lt (pos 0) (neg_ℤ o)
    is_below o = grind (arith, ints)

    is_above : (o : ℤ) → int_lt (pos 0) o ≡ int_lt (neg_ℤ o) (pos 0)
    is_above o = grind (arith, ints)

    back : (p q : Bool) (o : ℤ) → cond p (cond q false (int_lt o (pos 0))) (cond q (int_lt (pos 0) o) false)
        ≡ cond q (cond p false (int_lt (neg_ℤ o) (pos 0))) (cond p (int_lt (pos 0) (neg_ℤ o)) false)
    back true true o = refl
    back true false o = is_below o
    back false true o = is_above o
    back false false o = refl

-- ---- of segments
-- what holds of the ends by level: one end first, or the other
pub by_ends : (s : Segment) (P : Position → Position → Type 0) → (level_lt s.lo s.hi ≡ true → P s.lo s.hi)
    → (level_lt s.lo s.hi ≡ false → P s.hi s.lo) → P (bottom s) (top s)
by_ends s P f g = pick (level_lt s.lo s.hi) f g
  where
    pick : (b : Bool) → (b ≡ true → P s.lo s.hi) → (b ≡ false → P s.hi s.lo)
        → P (if b then s.lo else s.hi) (if b then s.hi else s.lo)
    pick true f g = f refl
    pick false f g = g refl

-- a segment counts for w where it is under way at w and has w strictly on its left
pub counts_where_left : (w : Position) (s : Segment)
    → is_counted w s.lo s.hi ≡ (is_under_way w s && int_lt (pos 0) (orientation (bottom s) (top s) w))
counts_where_left w s =
    by_ends s (λ a b. is_counted w s.lo s.hi ≡ ((not (level_lt w a) && level_lt w b) && int_lt (pos 0) (orientation a b w)))
    (λ e. counts_under_way w s.lo s.hi (rises s.lo.x s.lo.y s.hi.x s.hi.y e))
    (λ e. counts_back w s.lo s.hi ∙ counts_under_way w s.hi s.lo (falls s.lo.x s.lo.y s.hi.x s.hi.y e))
  where
    rises : (x y x' y' : ℤ) → (int_lt y y' || (int_eq y y' && int_lt x' x)) ≡ true → y ≤ℤ y'
    rises x y x' y' h = grind (arith, ints)

    falls : (x y x' y' : ℤ) → (int_lt y y' || (int_eq y y' && int_lt x' x)) ≡ false → y' ≤ℤ y
    falls x y x' y' h = grind (arith, ints)

-- ---- numbers that stand in the order of levels
-- a number above twice each of these, be it above 0 or below
pub record Steep (i j k l n : ℤ) : Type 0 where
  pub m : ℤ
  pub first_up : (i +ℤ i) <ℤ m
  pub first_down : neg_ℤ (i +ℤ i) <ℤ m
  pub second_up : (j +ℤ j) <ℤ m
  pub second_down : neg_ℤ (j +ℤ j) <ℤ m
  pub third_up : (k +ℤ k) <ℤ m
  pub third_down : neg_ℤ (k +ℤ k) <ℤ m
  pub fourth_up : (l +ℤ l) <ℤ m
  pub fourth_down : neg_ℤ (l +ℤ l) <ℤ m
  pub fifth_up : (n +ℤ n) <ℤ m
  pub fifth_down : neg_ℤ (n +ℤ n) <ℤ m

pub steep : (i j k l n : ℤ) → Steep i j k l n
steep i j k l n = record {
  m = pos (1 + (up i + up i + down i + down i) + (up j + up j + down j + down j) + (up k + up k + down k + down k) + (up l + up l + down l + down l) + (up n + up n + down n + down n));
  first_up = omega (arith, ints);
  first_down = omega (arith, ints);
  second_up = omega (arith, ints);
  second_down = omega (arith, ints);
  third_up = omega (arith, ints);
  third_down = omega (arith, ints);
  fourth_up = omega (arith, ints);
  fourth_down = omega (arith, ints);
  fifth_up = omega (arith, ints);
  fifth_down = omega (arith, ints);
}

abbrev pub rank : ℤ → Position → ℤ
rank m p = tilted m p.x p.y

-- two numbers, each below half of m whatever their signs, differ by less than m
pub record IsNear (m z : ℤ) : Type 0 where
  pub up : (z +ℤ z) <ℤ m
  pub down : neg_ℤ (z +ℤ z) <ℤ m

near : (m x y : ℤ) → IsNear m x → IsNear m y → (x -ℤ y) <ℤ m
near m x y h k = omega (arith, ints)

pub level_rank : (m : ℤ) (p q : Position) → IsNear m p.x → IsNear m q.x → level_lt p q ≡ int_lt (rank m p) (rank m q)
level_rank m p q h k = heights m p.x p.y q.x q.y (near m p.x q.x h k) (near m q.x p.x k h)

-- ---- what comes first of three
pub record Ranked (p q r : Position) : Type 0 where
  pub i : ℤ
  pub j : ℤ
  pub k : ℤ
  pub pq : level_lt p q ≡ int_lt i j
  pub qp : level_lt q p ≡ int_lt j i
  pub pr : level_lt p r ≡ int_lt i k
  pub rp : level_lt r p ≡ int_lt k i
  pub qr : level_lt q r ≡ int_lt j k
  pub rq : level_lt r q ≡ int_lt k j

pub ranked : (p q r : Position) → Ranked p q r
ranked p q r =
    let s = steep p.x q.x r.x r.x r.x in
    by s.m (record { up = s.first_up; down = s.first_down }) (record { up = s.second_up; down = s.second_down }) (record { up = s.third_up; down = s.third_down })
  where
    by : (m : ℤ) → IsNear m p.x → IsNear m q.x → IsNear m r.x → Ranked p q r
    by m hp hq hr = record {
      i = rank m p;
      j = rank m q;
      k = rank m r;
      pq = level_rank m p q hp hq;
      qp = level_rank m q p hq hp;
      pr = level_rank m p r hp hr;
      rp = level_rank m r p hr hp;
      qr = level_rank m q r hq hr;
      rq = level_rank m r q hr hq;
    }

pub before_before : (p q r : Position) → level_lt p q ≡ true → level_lt q r ≡ true → level_lt p r ≡ true
before_before p q r h k = let o = ranked p q r in o.pr ∙ by o.i o.j o.k (sym o.pq ∙ h) (sym o.qr ∙ k)
  where
    by : (i j k : ℤ) → int_lt i j ≡ true → int_lt j k ≡ true → int_lt i k ≡ true
    by i j k e f = grind (arith, ints)

-- p is not after q, and q comes before r
pub up_to_before : (p q r : Position) → level_lt q p ≡ false → level_lt q r ≡ true → level_lt p r ≡ true
up_to_before p q r h k = let o = ranked p q r in o.pr ∙ by o.i o.j o.k (sym o.qp ∙ h) (sym o.qr ∙ k)
  where
    by : (i j k : ℤ) → int_lt j i ≡ false → int_lt j k ≡ true → int_lt i k ≡ true
    by i j k e f = grind (arith, ints)

-- p comes before q, and q is not after r
pub before_up_to : (p q r : Position) → level_lt p q ≡ true → level_lt r q ≡ false → level_lt p r ≡ true
before_up_to p q r h k = let o = ranked p q r in o.pr ∙ by o.i o.j o.k (sym o.pq ∙ h) (sym o.rq ∙ k)
  where
    by : (i j k : ℤ) → int_lt i j ≡ true → int_lt k j ≡ false → int_lt i k ≡ true
    by i j k e f = grind (arith, ints)

-- p is not after q, and q is not after r
pub up_to_up_to : (p q r : Position) → level_lt q p ≡ false → level_lt r q ≡ false → level_lt r p ≡ false
up_to_up_to p q r h k = let o = ranked p q r in o.rp ∙ by o.i o.j o.k (sym o.qp ∙ h) (sym o.rq ∙ k)
  where
    by : (i j k : ℤ) → int_lt j i ≡ false → int_lt k j ≡ false → int_lt k i ≡ false
    by i j k e f = grind (arith, ints)

pub not_back : (p q : Position) → level_lt p q ≡ true → level_lt q p ≡ false
not_back p q h = let o = ranked p q q in o.qp ∙ by o.i o.j (sym o.pq ∙ h)
  where
    by : (i j : ℤ) → int_lt i j ≡ true → int_lt j i ≡ false
    by i j e = grind (arith, ints)

pub not_itself : (p : Position) → level_lt p p ≡ false
not_itself p = by p.x p.y
  where
    by : (x y : ℤ) → (int_lt y y || (int_eq y y && int_lt x x)) ≡ false
    by x y = grind (arith, ints)

-- two positions of which none comes first are one
pub same_level : (p q : Position) → level_lt p q ≡ false → level_lt q p ≡ false → position_eq p q ≡ true
same_level p q h k = by p.x p.y q.x q.y h k
  where
    by : (x y x' y' : ℤ) → (int_lt y y' || (int_eq y y' && int_lt x' x)) ≡ false
        → (int_lt y' y || (int_eq y' y && int_lt x x')) ≡ false → (int_eq x x' && int_eq y y') ≡ true
    by x y x' y' e f = grind (arith, ints)

pub before_differs : (p q : Position) → level_lt p q ≡ true → position_eq p q ≡ false
before_differs p q h = by p.x p.y q.x q.y h
  where
    by : (x y x' y' : ℤ) → (int_lt y y' || (int_eq y y' && int_lt x' x)) ≡ true → (int_eq x x' && int_eq y y') ≡ false
    by x y x' y' e = grind (arith, ints)

pub after_differs : (p q : Position) → level_lt q p ≡ true → position_eq p q ≡ false
after_differs p q h = by p.x p.y q.x q.y h
  where
    by : (x y x' y' : ℤ) → (int_lt y' y || (int_eq y' y && int_lt x x')) ≡ true → (int_eq x x' && int_eq y y') ≡ false
    by x y x' y' e = grind (arith, ints)

-- the ends of a segment differ, so that one of them comes first
pub rises : (s : Segment) → IsSegment s → level_lt (bottom s) (top s) ≡ true
rises s h = by_ends s (λ a b. level_lt a b ≡ true) (λ e. e) (λ e. by s.lo.x s.lo.y s.hi.x s.hi.y h e)
  where
    by : (x y x' y' : ℤ) → ordering_then (int_cmp x x') (int_cmp y y') ≡ Less
        → (int_lt y y' || (int_eq y y' && int_lt x' x)) ≡ false → (int_lt y' y || (int_eq y' y && int_lt x x')) ≡ true
    by x y x' y' h e = grind (arith, ints)
