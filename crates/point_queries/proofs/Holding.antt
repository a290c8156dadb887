-- A ring that holds a position has it in its bounding box.
use Rattle.kit_words.proofs.Common.{ℤ, pos, ◌≡◌, ◌-ℤ◌, ◌≤ℤ◌, ◌<ℤ◌, arith, Bool, true, false, cond, List, [], ◌∷◌, ◌++◌}
use Rattle.kit_words.proofs.Common.{refl, sym, ap, ap₂, ◌∙◌, ◌&&◌, Contains, subst, int_lt, int_le, not, int_min}
use Rattle.kit_words.proofs.Common.{int_max, AllByRecursion, is_gt, false≢true, ints, clamps, and_parts}
use Rattle.grid_geometry.specs.Common.{Position, position_cmp, orientation, links, xor, is_counted, is_odd_count}
use Rattle.grid_geometry.specs.Common.{is_inside, Segment, Box, segment, box_of, boxes_meet}
use Rattle.grid_geometry.proofs.Common.{up_down, down_up, down_down, above_above, weak, side}
use Rattle.grid_geometry.proofs.Balances.{turn}
use Rattle.grid_geometry.proofs.HeldLaw.{moved_turn, moved_below}
use Rattle.ring_machine.proofs.Common.{in_contains, all_of, xor-same, xor-none}
use Rattle.point_queries.specs.Common.{box_at}
use Rattle.point_queries.specs.Common.{ray_to, ray_back}

-- ---- whether an edge counts, by how far its ends are above
-- an end alone above, with the position to the side on which such an edge counts
counts : (a b s : ℤ) → (pos 0 <ℤ a → b ≤ℤ pos 0 → s <ℤ pos 0) → (a ≤ℤ pos 0 → pos 0 <ℤ b → pos 0 <ℤ s)
    → side a b s ≡ xor (int_lt (pos 0) a) (int_lt (pos 0) b)
counts a b s h k = grind (arith, ints)

counts_not : (a b s : ℤ) → (pos 0 <ℤ a → b ≤ℤ pos 0 → pos 0 ≤ℤ s) → (a ≤ℤ pos 0 → pos 0 <ℤ b → s ≤ℤ pos 0)
    → side a b s ≡ false
counts_not a b s h k = grind (arith, ints)

counted_is : (w a b : Position)
    → is_counted w a b ≡ side (a.y -ℤ w.y) (b.y -ℤ w.y) (turn (a.x -ℤ w.x) (a.y -ℤ w.y) (b.x -ℤ w.x) (b.y -ℤ w.y))
counted_is w a b = rw (moved_below w.y a.y, moved_below w.y b.y, moved_turn a b w)

-- ---- the turn between two points on one side of the origin, of which one alone is above
right_falls : (a1 a2 b1 b2 : ℤ) → pos 0 <ℤ a1 → pos 0 <ℤ b1 → pos 0 <ℤ a2 → b2 ≤ℤ pos 0
    → turn a1 a2 b1 b2 <ℤ pos 0
right_falls a1 a2 b1 b2 p q u v =
    omega (arith, ints, up_down a1 b2 (weak _ _ p) v, above_above a2 b1 u q)

right_rises : (a1 a2 b1 b2 : ℤ) → pos 0 <ℤ a1 → pos 0 <ℤ b1 → a2 ≤ℤ pos 0 → pos 0 <ℤ b2
    → pos 0 <ℤ turn a1 a2 b1 b2
right_rises a1 a2 b1 b2 p q u v =
    omega (arith, ints, above_above a1 b2 p v, down_up a2 b1 u (weak _ _ q))

left_falls : (a1 a2 b1 b2 : ℤ) → a1 ≤ℤ pos 0 → b1 ≤ℤ pos 0 → pos 0 <ℤ a2 → b2 ≤ℤ pos 0
    → pos 0 ≤ℤ turn a1 a2 b1 b2
left_falls a1 a2 b1 b2 p q u v =
    omega (arith, ints, down_down a1 b2 p v, up_down a2 b1 (weak _ _ u) q)

left_rises : (a1 a2 b1 b2 : ℤ) → a1 ≤ℤ pos 0 → b1 ≤ℤ pos 0 → a2 ≤ℤ pos 0 → pos 0 <ℤ b2
    → turn a1 a2 b1 b2 ≤ℤ pos 0
left_rises a1 a2 b1 b2 p q u v =
    omega (arith, ints, down_up a1 b2 p (weak _ _ v), down_down a2 b1 u q)

-- ---- a side between two points on one side of the origin
right_side : (a1 a2 b1 b2 : ℤ) → pos 0 <ℤ a1 → pos 0 <ℤ b1
    → side a2 b2 (turn a1 a2 b1 b2) ≡ xor (int_lt (pos 0) a2) (int_lt (pos 0) b2)
right_side a1 a2 b1 b2 p q =
    counts a2 b2 (turn a1 a2 b1 b2) (right_falls a1 a2 b1 b2 p q) (right_rises a1 a2 b1 b2 p q)

left_side : (a1 a2 b1 b2 : ℤ) → a1 ≤ℤ pos 0 → b1 ≤ℤ pos 0 → side a2 b2 (turn a1 a2 b1 b2) ≡ false
left_side a1 a2 b1 b2 p q =
    counts_not a2 b2 (turn a1 a2 b1 b2) (left_falls a1 a2 b1 b2 p q) (left_rises a1 a2 b1 b2 p q)

-- ---- an edge to one side of a position

-- the edge from a to b passes the level of p: one end alone is above it
abbrev pub passes_level : Position → Position → Position → Bool
passes_level p a b = xor (int_lt p.y a.y) (int_lt p.y b.y)

past : (z a : ℤ) → int_lt z a ≡ true → pos 0 <ℤ (a -ℤ z)
past z a h = grind (arith, ints)

not_past : (z a : ℤ) → int_le a z ≡ true → (a -ℤ z) ≤ℤ pos 0
not_past z a h = grind (arith, ints)

not_less : (z a : ℤ) → int_le a z ≡ true → int_lt z a ≡ false
not_less z a h = grind (arith, ints)

-- right of p, an edge counts exactly where it passes the level of p
pub right_counted : (p a b : Position) → int_lt p.x a.x ≡ true → int_lt p.x b.x ≡ true
    → is_counted p a b ≡ passes_level p a b
right_counted p a b h k =
    counted_is p a b
    ∙ right_side (a.x -ℤ p.x) (a.y -ℤ p.y) (b.x -ℤ p.x) (b.y -ℤ p.y) (past p.x a.x h) (past p.x b.x k)
    ∙ sym (ap₂ xor (moved_below p.y a.y) (moved_below p.y b.y))

-- not right of p, no edge counts, also where an end is straight above p or below it
pub left_uncounted : (p a b : Position) → int_le a.x p.x ≡ true → int_le b.x p.x ≡ true
    → is_counted p a b ≡ false
left_uncounted p a b h k =
    counted_is p a b
    ∙ left_side (a.x -ℤ p.x) (a.y -ℤ p.y) (b.x -ℤ p.x) (b.y -ℤ p.y) (not_past p.x a.x h) (not_past p.x b.x k)

-- nor where both ends are above the level of p, or neither is
pub above_uncounted : (p a b : Position) → int_lt p.y a.y ≡ true → int_lt p.y b.y ≡ true
    → is_counted p a b ≡ false
above_uncounted p a b h k = rw (h, k) refl

pub below_uncounted : (p a b : Position) → int_le a.y p.y ≡ true → int_le b.y p.y ≡ true
    → is_counted p a b ≡ false
below_uncounted p a b h k = rw (not_less p.y a.y h, not_less p.y b.y k) refl

-- ---- a ring to one side of a position

-- a way of which no edge counts
way_uncounted : (P : Position → Type 0) (p : Position)
    → ((a b : Position) → P a → P b → is_counted p a b ≡ false)
    → (a z : Position) (rest : List Position) → P a → AllByRecursion P rest → P z
    → is_odd_count p (links (a ∷ rest ++ z ∷ [])) ≡ false
way_uncounted P p none a z [] h k l = ap (λ c. xor c false) (none a z h l)
way_uncounted P p none a z (b ∷ rest) h k l =
    ap₂ xor (none a b h k.0) (way_uncounted P p none b z rest k.0 k.1 l)

ring_uncounted : (P : Position → Type 0) (p : Position)
    → ((a b : Position) → P a → P b → is_counted p a b ≡ false)
    → (ring : List Position) → AllByRecursion P ring → is_inside p ring ≡ false
ring_uncounted P p none [] h = refl
ring_uncounted P p none (a ∷ rest) h = way_uncounted P p none a a rest h.0 h.1 h.0

pub xor_through : (u v w : Bool) → xor (xor u v) (xor v w) ≡ xor u w
xor_through u v w = grind arith

module _ (P : Position → Type 0) (p : Position) (right : (q : Position) → P q → int_lt p.x q.x ≡ true) where
  -- a way to the right of p passes the level of p an odd number of times where one of its ends alone is above it
  way_right : (a z : Position) (rest : List Position) → P a → AllByRecursion P rest → P z
      → is_odd_count p (links (a ∷ rest ++ z ∷ [])) ≡ passes_level p a z
  way_right a z [] h k l =
      ap (λ c. xor c false) (right_counted p a z (right a h) (right z l)) ∙ xor-none (passes_level p a z)
  way_right a z (b ∷ rest) h k l =
      ap₂ xor (right_counted p a b (right a h) (right b k.0)) (way_right b z rest k.0 k.1 l)
      ∙ xor_through (int_lt p.y a.y) (int_lt p.y b.y) (int_lt p.y z.y)

  -- p left of a ring: the ring passes the level of p an even number of times
  even_left : (ring : List Position) → AllByRecursion P ring → is_inside p ring ≡ false
  even_left [] h = refl
  even_left (a ∷ rest) h = way_right a a rest h.0 h.1 h.0 ∙ xor-same (int_lt p.y a.y)

-- ---- the bounding box

-- the box has the position, its sides included
pub record BoxHas (r : Box) (q : Position) : Type 0 where
  pub left : int_le r.x0 q.x ≡ true
  pub right : int_le q.x r.x1 ≡ true
  pub lower : int_le r.y0 q.y ≡ true
  pub upper : int_le q.y r.y1 ≡ true

before : (z least a : ℤ) → int_le least z ≡ false → int_le least a ≡ true → int_lt z a ≡ true
before z least a h k = grind (arith, ints)

behind : (z most a : ℤ) → int_le z most ≡ false → int_le a most ≡ true → int_le a z ≡ true
behind z most a h k = grind (arith, ints)

unless : (b odd : Bool) → odd ≡ true → (b ≡ false → odd ≡ false) → b ≡ true
unless true odd h f = refl
unless false odd h f = absurd (false≢true (sym (f refl) ∙ h))

-- a box with each position of a ring has each position that the ring holds
pub holds_in_box : (r : Box) (ring : List Position) (p : Position) → AllByRecursion (BoxHas r) ring
    → is_inside p ring ≡ true → BoxHas r p
holds_in_box r ring p h odd = record {
  left = unless (int_le r.x0 p.x) (is_inside p ring) odd (λ e.
      even_left (BoxHas r) p (λ q k. before p.x r.x0 q.x e k.left) ring h);
  right = unless (int_le p.x r.x1) (is_inside p ring) odd (λ e. ring_uncounted (BoxHas r) p
      (λ a b k l. left_uncounted p a b (behind p.x r.x1 a.x e k.right) (behind p.x r.x1 b.x e l.right)) ring h);
  lower = unless (int_le r.y0 p.y) (is_inside p ring) odd (λ e. ring_uncounted (BoxHas r) p
      (λ a b k l. above_uncounted p a b (before p.y r.y0 a.y e k.lower) (before p.y r.y0 b.y e l.lower)) ring h);
  upper = unless (int_le p.y r.y1) (is_inside p ring) odd (λ e. ring_uncounted (BoxHas r) p
      (λ a b k l. below_uncounted p a b (behind p.y r.y1 a.y e k.upper) (behind p.y r.y1 b.y e l.upper)) ring h);
}

pub box_has : (r : Box) (q : Position) → boxes_meet r (box_at q) ≡ true → BoxHas r q
box_has r q h =
    let k = and_parts (int_le r.x0 q.x && int_le q.x r.x1) (int_le r.y0 q.y && int_le q.y r.y1) h in
    let x = and_parts (int_le r.x0 q.x) (int_le q.x r.x1) k.0 in
    let y = and_parts (int_le r.y0 q.y) (int_le q.y r.y1) k.1 in
    record { left = x.0; right = x.1; lower = y.0; upper = y.1 }

pub has_box : (r : Box) (q : Position) → BoxHas r q → boxes_meet r (box_at q) ≡ true
has_box r q h = rw (h.left, h.right, h.lower, h.upper)

-- an edge behind p: it passes the level of p, and does not count
abbrev pub behind_edge : Position → Position → Position → Bool
behind_edge p a b = passes_level p a b && not (is_counted p a b)

right_not_behind : (p a b : Position) → int_lt p.x a.x ≡ true → int_lt p.x b.x ≡ true → behind_edge p a b ≡ false
right_not_behind p a b h k = ap (λ z. passes_level p a b && not z) (right_counted p a b h k) ∙ none (passes_level p a b)
  where
    none : (c : Bool) → (c && not c) ≡ false
    none c = grind arith

-- a box with an edge that counts for p and an edge behind p has p
pub both_sides : (r : Box) (p a b c d : Position) → BoxHas r a → BoxHas r b → BoxHas r c → BoxHas r d
    → is_counted p a b ≡ true → behind_edge p c d ≡ true → BoxHas r p
both_sides r p a b c d ha hb hc hd counted behind_it = record {
  left = unless (int_le r.x0 p.x) (behind_edge p c d) behind_it (λ e.
      right_not_behind p c d (before p.x r.x0 c.x e hc.left) (before p.x r.x0 d.x e hd.left));
  right = unless (int_le p.x r.x1) (is_counted p a b) counted (λ e.
      left_uncounted p a b (behind p.x r.x1 a.x e ha.right) (behind p.x r.x1 b.x e hb.right));
  lower = unless (int_le r.y0 p.y) (is_counted p a b) counted (λ e.
      above_uncounted p a b (before p.y r.y0 a.y e ha.lower) (before p.y r.y0 b.y e hb.lower));
  upper = unless (int_le p.y r.y1) (is_counted p a b) counted (λ e.
      below_uncounted p a b (behind p.y r.y1 a.y e ha.upper) (behind p.y r.y1 b.y e hb.upper));
}

-- the same by a diagonal of the box
pub holds_in_diagonal : (d : Segment) (ring : List Position) (p : Position)
    → ((q : Position) → Contains ring q → boxes_meet (box_of d) (box_at q) ≡ true)
    → is_inside p ring ≡ true → boxes_meet (box_of d) (box_at p) ≡ true
holds_in_diagonal d ring p h odd =
    has_box (box_of d) p
    (holds_in_box (box_of d) ring p (all_of (BoxHas (box_of d)) ring (λ q i. box_has (box_of d) q (h q (in_contains ring q i)))) odd)

-- ---- the ray

columns_meet : (w x a b : ℤ) → int_le a x ≡ true → (int_le a w && int_le b w) ≡ false
    → (int_le (int_min a b) x && int_le w (int_max a b)) ≡ true
columns_meet w x a b l h = grind (arith, ints, clamps)

rows_meet : (w a b s : ℤ)
    → cond (int_lt w a) (cond (int_lt w b) false (int_lt s (pos 0))) (cond (int_lt w b) (int_lt (pos 0) s) false) ≡ true
    → (int_le (int_min a b) w && int_le w (int_max a b)) ≡ true
rows_meet w a b s h = grind (arith, ints, clamps)

-- a segment that counts meets the ray that goes at least as far as its lesser end
pub counted_meets : (p : Position) (s : Segment) (x : ℤ) → int_le s.lo.x x ≡ true
    → is_counted p s.lo s.hi ≡ true → boxes_meet (box_of s) (ray_to p x) ≡ true
counted_meets p s x l h =
    let beyond : (int_le s.lo.x p.x && int_le s.hi.x p.x) ≡ false = by (int_le s.lo.x p.x) refl (int_le s.hi.x p.x) refl in
    rw (columns_meet p.x x s.lo.x s.hi.x l beyond) (rows_meet p.y s.lo.y s.hi.y (orientation s.lo s.hi p) h)
  where
    by : (u : Bool) → int_le s.lo.x p.x ≡ u → (v : Bool) → int_le s.hi.x p.x ≡ v → (u && v) ≡ false
    by true e true f = sym h ∙ left_uncounted p s.lo s.hi e f
    by true e false f = refl
    by false e v f = refl

level_columns : (w x a b : ℤ) → int_le x a ≡ true → (int_lt w a && int_lt w b) ≡ false
    → (int_le (int_min a b) w && int_le x (int_max a b)) ≡ true
level_columns w x a b l h = grind (arith, ints, clamps)

level_rows : (w a b : ℤ) → xor (int_lt w a) (int_lt w b) ≡ true → (int_le (int_min a b) w && int_le w (int_max a b)) ≡ true
level_rows w a b h = grind (arith, ints, clamps)

min_back : (a b : ℤ) → int_min a b ≡ int_min b a
min_back a b = grind (arith, ints, clamps)

max_back : (a b : ℤ) → int_max a b ≡ int_max b a
max_back a b = grind (arith, ints, clamps)

box_of_ends : (a b : Position) → box_of (record { lo = a; hi = b }) ≡ box_of (segment a b)
box_of_ends a b = by (is_gt (position_cmp a b))
  where
    by : (t : Bool) → box_of (record { lo = a; hi = b })
        ≡ box_of (cond {A = Segment} t (record { lo = b; hi = a }) (record { lo = a; hi = b }))
    by true = λ i. record {
      x0 = min_back a.x b.x i;
      y0 = min_back a.y b.y i;
      x1 = max_back a.x b.x i;
      y1 = max_back a.y b.y i;
    }
    by false = refl

-- an edge that counts, whichever way it goes
pub counted_within : (p a b : Position) (x : ℤ) → int_le a.x x ≡ true
    → is_counted p a b ≡ true → boxes_meet (box_of (segment a b)) (ray_to p x) ≡ true
counted_within p a b x l h =
    subst (λ r. boxes_meet r (ray_to p x) ≡ true) (box_of_ends a b) (counted_meets p (record { lo = a; hi = b }) x l h)

-- an edge behind p meets the ray to the left that goes at least as far as where it begins
pub behind_within : (p a b : Position) (x : ℤ) → int_le x a.x ≡ true
    → behind_edge p a b ≡ true → boxes_meet (box_of (segment a b)) (ray_back p x) ≡ true
behind_within p a b x l h =
    let level = (and_parts (passes_level p a b) (not (is_counted p a b)) h).0 in
    subst (λ r. boxes_meet r (ray_back p x) ≡ true) (box_of_ends a b)
    (rw (level_columns p.x x a.x b.x l (by (int_lt p.x a.x) refl (int_lt p.x b.x) refl), level_rows p.y a.y b.y level))
  where
    by : (u : Bool) → int_lt p.x a.x ≡ u → (v : Bool) → int_lt p.x b.x ≡ v → (u && v) ≡ false
    by true e true f = absurd (false≢true (sym (right_not_behind p a b e f) ∙ h))
    by true e false f = refl
    by false e v f = refl
