-- The triangles between a segment and its path are small: their heights are.
use Rattle.kit_words.proofs.Common.{ℕ, ℤ, pos, ◌≡◌, ◌≤◌, ◌<◌, ◌+◌, ◌*◌, ◌+ℤ◌, ◌-ℤ◌, ◌*ℤ◌, neg_ℤ, ◌<ℤ◌, arith}
use Rattle.kit_words.proofs.Common.{unsigned_abs, sym, ap, ap₂, ◌∙◌, mul-le-mul, mul-le-mul_left, le_of_mul-le-mul_left}
use Rattle.kit_words.proofs.Common.{ints, unsigned_abs-mul}
use Rattle.grid_geometry.specs.Common.{Position, Segment, orientation}
use Rattle.grid_geometry.proofs.Common.{expand, comm, assoc}
use Rattle.segment_paths.specs.Common.{along}
use Rattle.map_mending.specs.Common.{IsBeside}

-- ---- factors in another order

firsts : (a b c d : ℤ) → (a *ℤ b) *ℤ (c *ℤ d) ≡ (c *ℤ b) *ℤ (a *ℤ d)
firsts a b c d =
    sym (assoc (a *ℤ b) c d)
    ∙ ap (λ z. z *ℤ d) (comm (a *ℤ b) c ∙ ap (λ z. c *ℤ z) (comm a b) ∙ sym (assoc c b a))
    ∙ assoc (c *ℤ b) a d

turned : (a b c d : ℤ) → (a *ℤ b) *ℤ (c *ℤ d) ≡ (d *ℤ b) *ℤ (a *ℤ c)
turned a b c d = ap (λ z. (a *ℤ b) *ℤ z) (comm c d) ∙ firsts a b d c

ends : (a b c d : ℤ) → (a *ℤ b) *ℤ (c *ℤ d) ≡ (d *ℤ b) *ℤ (c *ℤ a)
ends a b c d = turned a b c d ∙ ap (λ z. (d *ℤ b) *ℤ z) (comm a c)

-- of vectors u, v and w: how far v and w reach along u, and beside it, gives their own turn
turns : (u1 u2 v1 v2 w1 w2 : ℤ)
    → (u1 *ℤ u1 +ℤ u2 *ℤ u2) *ℤ (v1 *ℤ w2 -ℤ v2 *ℤ w1)
    ≡ (v1 *ℤ u1 +ℤ v2 *ℤ u2) *ℤ (u1 *ℤ w2 -ℤ u2 *ℤ w1) -ℤ (w1 *ℤ u1 +ℤ w2 *ℤ u2) *ℤ (u1 *ℤ v2 -ℤ u2 *ℤ v1)
turns u1 u2 v1 v2 w1 w2 =
    simp expand (omega (arith, ints, ends v1 u1 u2 w1, ends v2 u2 u1 w2, firsts u1 u1 v1 w2, firsts u2 u2 v2 w1, turned u1 u1 v2 w1, turned u2 u2 v1 w2))

-- ---- sizes

-- l is the square of a length, a and b are shares of it, and x and y are small
small : (l c a b x y : ℤ) (n : ℕ) → l *ℤ c ≡ a *ℤ y -ℤ b *ℤ x → pos 0 <ℤ l
    → unsigned_abs a ≤ unsigned_abs l → unsigned_abs b ≤ unsigned_abs l → 2 * unsigned_abs x ≤ n → 2 * unsigned_abs y ≤ n → unsigned_abs c ≤ n
small l c a b x y n e some la lb hx hy =
    let size = unsigned_abs l in
    let positive : 0 < size = omega (arith, ints) in
    let left_size : unsigned_abs a * unsigned_abs y ≤ size * unsigned_abs y = mul-le-mul la (omega arith) in
    let left : unsigned_abs (a *ℤ y) ≤ size * unsigned_abs y = omega (arith, unsigned_abs-mul a y, left_size) in
    let right_size : unsigned_abs b * unsigned_abs x ≤ size * unsigned_abs x = mul-le-mul lb (omega arith) in
    let right : unsigned_abs (b *ℤ x) ≤ size * unsigned_abs x = omega (arith, unsigned_abs-mul b x, right_size) in
    let whole : size * unsigned_abs c ≡ unsigned_abs (a *ℤ y -ℤ b *ℤ x) = sym (unsigned_abs-mul l c) ∙ ap unsigned_abs e in
    let one : size * (2 * unsigned_abs y) ≤ size * n = mul-le-mul_left size hy in
    let other : size * (2 * unsigned_abs x) ≤ size * n = mul-le-mul_left size hx in
    let twice : size * unsigned_abs c ≤ size * n = omega (arith, ints, left, right, whole, one, other) in
    le_of_mul-le-mul_left twice positive

-- ---- triangles

-- the turn of two positions as seen from the end
from_end : (v1 v2 w1 w2 : ℤ) → (w1 -ℤ v1) *ℤ neg_ℤ v2 -ℤ neg_ℤ v1 *ℤ (w2 -ℤ v2) ≡ v1 *ℤ w2 -ℤ v2 *ℤ w1
from_end v1 v2 w1 w2 = simp expand (omega (arith, ints, comm v1 v2, comm w1 v2))

from_begin : (u1 u2 v1 v2 : ℤ) → u1 *ℤ (v2 +ℤ u2) -ℤ (v1 +ℤ u1) *ℤ u2 ≡ u1 *ℤ v2 -ℤ u2 *ℤ v1
from_begin u1 u2 v1 v2 = simp expand (omega (arith, ints, comm v1 u2))

reach : (u1 u2 v1 v2 : ℤ) → (v1 +ℤ u1) *ℤ u1 +ℤ (v2 +ℤ u2) *ℤ u2 ≡ (v1 *ℤ u1 +ℤ v2 *ℤ u2) +ℤ (u1 *ℤ u1 +ℤ u2 *ℤ u2)
reach u1 u2 v1 v2 = simp expand (omega (arith, ints))

-- of two positions beside a segment and its end
pub triangle_small : (s : Segment) (p q : Position) → pos 0 <ℤ along s s.hi → IsBeside s p → IsBeside s q
    → unsigned_abs (orientation p q s.hi) ≤ unsigned_abs (s.hi.x -ℤ s.lo.x) + unsigned_abs (s.hi.y -ℤ s.lo.y)
unfolding orientation along
triangle_small s p q long beside_p beside_q =
    let u1 = s.hi.x -ℤ s.lo.x in
    let u2 = s.hi.y -ℤ s.lo.y in
    let v1 = p.x -ℤ s.hi.x in
    let v2 = p.y -ℤ s.hi.y in
    let w1 = q.x -ℤ s.hi.x in
    let w2 = q.y -ℤ s.hi.y in
    let l = u1 *ℤ u1 +ℤ u2 *ℤ u2 in
    let px : p.x -ℤ s.lo.x ≡ v1 +ℤ u1 = omega (arith, ints) in
    let py : p.y -ℤ s.lo.y ≡ v2 +ℤ u2 = omega (arith, ints) in
    let qx : q.x -ℤ s.lo.x ≡ w1 +ℤ u1 = omega (arith, ints) in
    let qy : q.y -ℤ s.lo.y ≡ w2 +ℤ u2 = omega (arith, ints) in
    let dx : q.x -ℤ p.x ≡ w1 -ℤ v1 = omega (arith, ints) in
    let dy : q.y -ℤ p.y ≡ w2 -ℤ v2 = omega (arith, ints) in
    let ex : s.hi.x -ℤ p.x ≡ neg_ℤ v1 = omega (arith, ints) in
    let ey : s.hi.y -ℤ p.y ≡ neg_ℤ v2 = omega (arith, ints) in
    let turn : orientation p q s.hi ≡ v1 *ℤ w2 -ℤ v2 *ℤ w1 =
    ap₂ (λ a b. a -ℤ b) (ap₂ (λ a b. a *ℤ b) dx ey) (ap₂ (λ a b. a *ℤ b) ex dy) ∙ from_end v1 v2 w1 w2 in
    let side_p : orientation s.lo s.hi p ≡ u1 *ℤ v2 -ℤ u2 *ℤ v1 =
    ap₂ (λ a b. u1 *ℤ a -ℤ b *ℤ u2) py px ∙ from_begin u1 u2 v1 v2 in
    let side_q : orientation s.lo s.hi q ≡ u1 *ℤ w2 -ℤ u2 *ℤ w1 =
    ap₂ (λ a b. u1 *ℤ a -ℤ b *ℤ u2) qy qx ∙ from_begin u1 u2 w1 w2 in
    let far_p : along s p ≡ (v1 *ℤ u1 +ℤ v2 *ℤ u2) +ℤ l = ap₂ (λ a b. a *ℤ u1 +ℤ b *ℤ u2) px py ∙ reach u1 u2 v1 v2 in
    let far_q : along s q ≡ (w1 *ℤ u1 +ℤ w2 *ℤ u2) +ℤ l = ap₂ (λ a b. a *ℤ u1 +ℤ b *ℤ u2) qx qy ∙ reach u1 u2 w1 w2 in
    let all : along s s.hi ≡ l = omega (arith, ints) in
    let share_p : unsigned_abs (v1 *ℤ u1 +ℤ v2 *ℤ u2) ≤ unsigned_abs l = omega (arith, ints, far_p, all, beside_p.begins, beside_p.ends) in
    let share_q : unsigned_abs (w1 *ℤ u1 +ℤ w2 *ℤ u2) ≤ unsigned_abs l = omega (arith, ints, far_q, all, beside_q.begins, beside_q.ends) in
    let n = unsigned_abs u1 + unsigned_abs u2 in
    let near_p : 2 * unsigned_abs (u1 *ℤ v2 -ℤ u2 *ℤ v1) ≤ n = omega (arith, ap unsigned_abs side_p, beside_p.near) in
    let near_q : 2 * unsigned_abs (u1 *ℤ w2 -ℤ u2 *ℤ w1) ≤ n = omega (arith, ap unsigned_abs side_q, beside_q.near) in
    let some : pos 0 <ℤ l = omega (arith, ints, all, long) in
    let bound = small l (v1 *ℤ w2 -ℤ v2 *ℤ w1) (v1 *ℤ u1 +ℤ v2 *ℤ u2) (w1 *ℤ u1 +ℤ w2 *ℤ u2) (u1 *ℤ v2 -ℤ u2 *ℤ v1) (u1 *ℤ w2 -ℤ u2 *ℤ w1) n
    (turns u1 u2 v1 v2 w1 w2) some share_p share_q near_p near_q in
    omega (arith, ap unsigned_abs turn, bound)
