-- Two edges that reach a position, at which neither lies as the order wants it: they cross, or one ends on the other.
use Rattle.kit_words.proofs.Common.{ℤ, pos, ◌≡◌, ◌-ℤ◌, ◌*ℤ◌, ◌≤ℤ◌, ◌<ℤ◌, arith, ◌∙◌, ints, sym, true, false, int_lt}
use Rattle.grid_geometry.specs.Common.{Position, orientation}
use Rattle.grid_geometry.proofs.Algebra.{expand, comm}
use Rattle.grid_geometry.proofs.HeldLaw.{moved_turn}
use Rattle.grid_geometry.proofs.Turns.{orientation-start}
use Rattle.layer_sides.specs.Common.{level_lt}
use Rattle.layer_sides.proofs.Crossing.{area, balance, quad, tilted, between, Balanced, later_right, later_left, together}
use Rattle.layer_sides.proofs.Levels.{IsNear, steep, rank, level_rank}

-- ---- with w at the origin
area_is : (a1 a2 b1 b2 c1 c2 : ℤ)
    → (b1 -ℤ a1) *ℤ (c2 -ℤ a2) -ℤ (c1 -ℤ a1) *ℤ (b2 -ℤ a2) ≡ area a1 a2 b1 b2 c1 c2
area_is a1 a2 b1 b2 c1 c2 = simp expand (omega (arith, ints, comm b1 a2, comm a1 c2, comm c1 b2, comm a1 a2))

shifted : (x y z : ℤ) → x -ℤ y ≡ (x -ℤ z) -ℤ (y -ℤ z)
shifted x y z = omega (arith, ints)

moved_area : (a b c w : Position)
    → orientation a b c ≡ area (a.x -ℤ w.x) (a.y -ℤ w.y) (b.x -ℤ w.x) (b.y -ℤ w.y) (c.x -ℤ w.x) (c.y -ℤ w.y)
unfolding orientation
moved_area a b c w =
    (λ i. shifted b.x a.x w.x i *ℤ shifted c.y a.y w.y i -ℤ shifted c.x a.x w.x i *ℤ shifted b.y a.y w.y i)
    ∙ area_is (a.x -ℤ w.x) (a.y -ℤ w.y) (b.x -ℤ w.x) (b.y -ℤ w.y) (c.x -ℤ w.x) (c.y -ℤ w.y)

moved_rank : (m : ℤ) (p w : Position) → rank m p -ℤ rank m w ≡ tilted m (p.x -ℤ w.x) (p.y -ℤ w.y)
moved_rank m p w = between m p.x p.y w.x w.y

-- the sides of the ends and of w, and the heights of the ends above w
balanced : (m : ℤ) (a b c d w : Position)
    → Balanced (orientation a b c) (orientation a b d) (orientation c d a) (orientation c d b) (orientation a b w) (orientation c d w)
    (rank m a -ℤ rank m w) (rank m b -ℤ rank m w) (rank m c -ℤ rank m w) (rank m d -ℤ rank m w)
balanced m a b c d w =
    let a1 = a.x -ℤ w.x in
    let a2 = a.y -ℤ w.y in
    let b1 = b.x -ℤ w.x in
    let b2 = b.y -ℤ w.y in
    let c1 = c.x -ℤ w.x in
    let c2 = c.y -ℤ w.y in
    let d1 = d.x -ℤ w.x in
    let d2 = d.y -ℤ w.y in
    moved (moved_area a b c w) (moved_area a b d w) (moved_area c d a w) (moved_area c d b w) (moved_turn a b w) (moved_turn c d w)
    (moved_rank m a w) (moved_rank m b w) (moved_rank m c w) (moved_rank m d w)
    (record { ends = balance m a1 a2 b1 b2 c1 c2 d1 d2; begins = balance m c1 c2 d1 d2 a1 a2 b1 b2; parted = quad a1 a2 b1 b2 c1 c2 d1 d2 })
  where
    moved : {p p' q q' r r' s s' x x' y y' a a' b b' c c' d d' : ℤ} → p ≡ p' → q ≡ q' → r ≡ r' → s ≡ s' → x ≡ x' → y ≡ y'
        → a ≡ a' → b ≡ b' → c ≡ c' → d ≡ d' → Balanced p' q' r' s' x' y' a' b' c' d' → Balanced p q r s x y a b c d
    moved ep eq er es ex ey ea eb ec ed h = rw (ep, eq, er, es, ex, ey, ea, eb, ec, ed) h

-- ---- numbers in the order of levels: i, j, k, l, n are those of a, b, c, d, w
pub record Placed (a b c d w : Position) : Type 0 where
  pub i : ℤ
  pub j : ℤ
  pub k : ℤ
  pub l : ℤ
  pub n : ℤ
  pub balanced : Balanced (orientation a b c) (orientation a b d) (orientation c d a) (orientation c d b) (orientation a b w) (orientation c d w)
      (i -ℤ n) (j -ℤ n) (k -ℤ n) (l -ℤ n)
  pub ab : level_lt a b ≡ int_lt i j
  pub cd : level_lt c d ≡ int_lt k l
  pub ac : level_lt a c ≡ int_lt i k
  pub ca : level_lt c a ≡ int_lt k i
  pub cb : level_lt c b ≡ int_lt k j
  pub ad : level_lt a d ≡ int_lt i l
  pub wa : level_lt w a ≡ int_lt n i
  pub wb : level_lt w b ≡ int_lt n j
  pub bw : level_lt b w ≡ int_lt j n
  pub wc : level_lt w c ≡ int_lt n k
  pub cw : level_lt c w ≡ int_lt k n
  pub wd : level_lt w d ≡ int_lt n l
  pub dw : level_lt d w ≡ int_lt l n

pub placed : (a b c d w : Position) → Placed a b c d w
placed a b c d w =
    let s = steep a.x b.x c.x d.x w.x in
    by s.m (record { up = s.first_up; down = s.first_down }) (record { up = s.second_up; down = s.second_down }) (record { up = s.third_up; down = s.third_down })
    (record { up = s.fourth_up; down = s.fourth_down }) (record { up = s.fifth_up; down = s.fifth_down })
  where
    by : (m : ℤ) → IsNear m a.x → IsNear m b.x → IsNear m c.x → IsNear m d.x → IsNear m w.x → Placed a b c d w
    by m ha hb hc hd hw = record {
      i = rank m a;
      j = rank m b;
      k = rank m c;
      l = rank m d;
      n = rank m w;
      balanced = balanced m a b c d w;
      ab = level_rank m a b ha hb;
      cd = level_rank m c d hc hd;
      ac = level_rank m a c ha hc;
      ca = level_rank m c a hc ha;
      cb = level_rank m c b hc hb;
      ad = level_rank m a d ha hd;
      wa = level_rank m w a hw ha;
      wb = level_rank m w b hw hb;
      bw = level_rank m b w hb hw;
      wc = level_rank m w c hw hc;
      cw = level_rank m c w hc hw;
      wd = level_rank m w d hw hd;
      dw = level_rank m d w hd hw;
    }

-- what a test says of heights above w
less_above : (i j n : ℤ) → int_lt i j ≡ true → (i -ℤ n) <ℤ (j -ℤ n)
less_above i j n h = grind (arith, ints)

up_to_above : (i j n : ℤ) → int_lt j i ≡ false → (i -ℤ n) ≤ℤ (j -ℤ n)
up_to_above i j n h = grind (arith, ints)

not_above : (i n : ℤ) → int_lt n i ≡ false → (i -ℤ n) ≤ℤ pos 0
not_above i n h = grind (arith, ints)

not_below : (i n : ℤ) → int_lt i n ≡ false → pos 0 ≤ℤ (i -ℤ n)
not_below i n h = grind (arith, ints)

none_above : (i n : ℤ) → i -ℤ n ≡ pos 0 → int_lt n i ≡ false
none_above i n h = grind (arith, ints)

none_below : (i n : ℤ) → i -ℤ n ≡ pos 0 → int_lt i n ≡ false
none_below i n h = grind (arith, ints)

-- an edge from a to b and one from c to d, both reach w, and w is neither right of the one nor left of the other
pub record Between (a b c d w : Position) : Type 0 where
  pub begun : level_lt w a ≡ false
  pub ends : level_lt b w ≡ false
  pub other_begun : level_lt w c ≡ false
  pub other_ends : level_lt d w ≡ false
  pub rises : level_lt a b ≡ true
  pub other_rises : level_lt c d ≡ true
  pub not_right : pos 0 ≤ℤ orientation a b w
  pub not_left : orientation c d w ≤ℤ pos 0

-- the second begins later, right of the first
pub placed_right : (a b c d w : Position) → Between a b c d w → level_lt c a ≡ false → level_lt c b ≡ true
    → orientation a b c <ℤ pos 0
    → (orientation a b c <ℤ pos 0 → pos 0 <ℤ orientation a b d → pos 0 <ℤ orientation c d a → orientation c d b <ℤ pos 0 → ⊥)
    → (level_lt w b ≡ false → orientation c d b ≡ pos 0 → ⊥) → (level_lt w d ≡ false → orientation a b d ≡ pos 0 → ⊥) → ⊥
placed_right a b c d w h hac hcb hp cross touch end =
    let o = placed a b c d w in
    later_right (orientation a b c) (orientation a b d) (orientation c d a) (orientation c d b) (orientation a b w) (orientation c d w)
    (o.i -ℤ o.n) (o.j -ℤ o.n) (o.k -ℤ o.n) (o.l -ℤ o.n) o.balanced hp h.not_right h.not_left
    (up_to_above o.i o.k o.n (sym o.ca ∙ hac)) (less_above o.k o.j o.n (sym o.cb ∙ hcb)) (less_above o.k o.l o.n (sym o.cd ∙ h.other_rises))
    (not_above o.k o.n (sym o.wc ∙ h.other_begun)) (not_below o.j o.n (sym o.bw ∙ h.ends)) (not_below o.l o.n (sym o.dw ∙ h.other_ends))
    (cross hp) (λ e. touch (o.wb ∙ none_above o.j o.n e)) (λ e. end (o.wd ∙ none_above o.l o.n e))

-- the first begins later, left of the second
pub placed_left : (a b c d w : Position) → Between a b c d w → level_lt a c ≡ false → level_lt a d ≡ true
    → pos 0 <ℤ orientation c d a
    → (orientation a b c <ℤ pos 0 → pos 0 <ℤ orientation a b d → pos 0 <ℤ orientation c d a → orientation c d b <ℤ pos 0 → ⊥)
    → (level_lt w b ≡ false → orientation c d b ≡ pos 0 → ⊥) → (level_lt w d ≡ false → orientation a b d ≡ pos 0 → ⊥) → ⊥
placed_left a b c d w h hca had hr cross touch end =
    let o = placed a b c d w in
    later_left (orientation a b c) (orientation a b d) (orientation c d a) (orientation c d b) (orientation a b w) (orientation c d w)
    (o.i -ℤ o.n) (o.j -ℤ o.n) (o.k -ℤ o.n) (o.l -ℤ o.n) o.balanced hr h.not_right h.not_left
    (up_to_above o.k o.i o.n (sym o.ac ∙ hca)) (less_above o.i o.l o.n (sym o.ad ∙ had)) (less_above o.i o.j o.n (sym o.ab ∙ h.rises))
    (not_above o.i o.n (sym o.wa ∙ h.begun)) (not_below o.j o.n (sym o.bw ∙ h.ends)) (not_below o.l o.n (sym o.dw ∙ h.other_ends))
    (λ p q s. cross p q hr s) (λ e. touch (o.wb ∙ none_above o.j o.n e)) (λ e. end (o.wd ∙ none_above o.l o.n e))

-- both begin at a, and the second ends right of the first: w is at a
pub placed_together : (a b d w : Position) → Between a b a d w → orientation a b d <ℤ pos 0 → level_lt a w ≡ false
placed_together a b d w h hq =
    let o = placed a b a d w in
    o.cw ∙ none_below o.k o.n (together (orientation a b d) (orientation a b w) (orientation a d w)
    (o.i -ℤ o.n) (o.j -ℤ o.n) (o.k -ℤ o.n) (o.l -ℤ o.n) (orientation a d b)
    (rw (orientation-start a b, orientation-start a d) at o.balanced) hq h.not_right h.not_left
    (up_to_above o.i o.j o.n (after o.i o.j (sym o.ab ∙ h.rises))) (up_to_above o.k o.l o.n (after o.k o.l (sym o.cd ∙ h.other_rises)))
    (not_above o.k o.n (sym o.wc ∙ h.other_begun)))
  where
    after : (i j : ℤ) → int_lt i j ≡ true → int_lt j i ≡ false
    after i j h = grind (arith, ints)
