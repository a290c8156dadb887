-- Where two segments cross: what the heights of their ends say of the areas between them. The origin is a position that both reach.
use Rattle.kit_words.proofs.Common.{ℤ, pos, ◌≡◌, ◌+ℤ◌, ◌-ℤ◌, ◌*ℤ◌, neg_ℤ, ◌≤ℤ◌, ◌<ℤ◌, arith, ap, ◌∙◌, ints, by_lt_z, sym}
use Rattle.kit_words.proofs.Common.{refl, int_lt, int_eq, ◌&&◌, ◌||◌, true, false, ap₂}
use Rattle.grid_geometry.proofs.Algebra.{expand, comm, assoc, dist_right, neg_left, neg_right, weak, zero_negs}
use Rattle.grid_geometry.proofs.Algebra.{up_up, up_down, down_up, above_above, below_above, above_below}
use Rattle.grid_geometry.proofs.Balances.{turn}

-- ---- products
mix : (a b c : ℤ) → (a *ℤ b) *ℤ c ≡ (c *ℤ b) *ℤ a
mix a b c = comm (a *ℤ b) c ∙ ap (λ z. c *ℤ z) (comm a b) ∙ sym (assoc c b a)

swap : (a b c : ℤ) → (a *ℤ b) *ℤ c ≡ (a *ℤ c) *ℤ b
swap a b c = assoc a b c ∙ ap (λ z. a *ℤ z) (comm b c) ∙ sym (assoc a c b)

cycle : (a b c : ℤ) → (a *ℤ b) *ℤ c ≡ (b *ℤ c) *ℤ a
cycle a b c = assoc a b c ∙ comm a (b *ℤ c)

aside : (p m z : ℤ) → p *ℤ (m *ℤ z) ≡ m *ℤ (p *ℤ z)
aside p m z = sym (assoc p m z) ∙ ap (λ k. k *ℤ z) (comm p m) ∙ assoc m p z

below_below : (a b : ℤ) → a <ℤ pos 0 → b <ℤ pos 0 → pos 0 <ℤ (a *ℤ b)
below_below a b ha hb = omega (arith, ints, above_above (neg_ℤ a) (neg_ℤ b) (zero_negs a ha) (zero_negs b hb), neg_left a (neg_ℤ b), neg_right a b)

-- ---- areas
-- twice the signed area of the triangle of three points
abbrev pub area : ℤ → ℤ → ℤ → ℤ → ℤ → ℤ → ℤ
area a1 a2 b1 b2 c1 c2 = turn a1 a2 b1 b2 +ℤ turn b1 b2 c1 c2 +ℤ turn c1 c2 a1 a2

-- the areas of the ends of one segment with the other, weighed by their heights
balance_up : (a1 a2 b1 b2 c1 c2 d1 d2 : ℤ)
    → area a1 a2 b1 b2 c1 c2 *ℤ d2 -ℤ area a1 a2 b1 b2 d1 d2 *ℤ c2
    ≡ turn a1 a2 b1 b2 *ℤ (d2 -ℤ c2) -ℤ turn c1 c2 d1 d2 *ℤ (b2 -ℤ a2)
balance_up a1 a2 b1 b2 c1 c2 d1 d2 =
    simp expand (omega (arith, ints, swap b1 c2 d2, mix c2 a1 d2, cycle b2 c1 d2, mix b2 d1 c2, swap c1 a2 d2, cycle c2 d1 a2))

balance_across : (a1 a2 b1 b2 c1 c2 d1 d2 : ℤ)
    → area a1 a2 b1 b2 c1 c2 *ℤ d1 -ℤ area a1 a2 b1 b2 d1 d2 *ℤ c1
    ≡ turn a1 a2 b1 b2 *ℤ (d1 -ℤ c1) -ℤ turn c1 c2 d1 d2 *ℤ (b1 -ℤ a1)
balance_across a1 a2 b1 b2 c1 c2 d1 d2 =
    simp expand (omega (arith, ints, swap b2 c1 d1, mix c1 a2 d1, cycle b1 c2 d1, mix b1 d2 c1, swap c2 a1 d1, cycle c1 d2 a1))

-- the two ways to part a quadrilateral
pub quad : (a1 a2 b1 b2 c1 c2 d1 d2 : ℤ)
    → area a1 a2 b1 b2 c1 c2 +ℤ area c1 c2 d1 d2 a1 a2 ≡ area a1 a2 b1 b2 d1 d2 +ℤ area c1 c2 d1 d2 b1 b2
quad a1 a2 b1 b2 c1 c2 d1 d2 =
    omega (arith, ints, comm c1 a2, comm c2 a1, comm b1 d2, comm b2 d1)

-- ---- heights that tell positions at one height apart
-- m times the height of a point, less how far it is to the right
abbrev pub tilted : ℤ → ℤ → ℤ → ℤ
tilted m x y = m *ℤ y -ℤ x

less : (m k l : ℤ) → m *ℤ (k -ℤ l) ≡ m *ℤ k -ℤ m *ℤ l
less m k l = simp expand (omega (arith, ints))

spread : (p m x y : ℤ) → p *ℤ tilted m x y ≡ m *ℤ (p *ℤ y) -ℤ p *ℤ x
spread p m x y = less p (m *ℤ y) x ∙ ap (λ z. z -ℤ p *ℤ x) (aside p m y)

pub between : (m x y x' y' : ℤ) → tilted m x y -ℤ tilted m x' y' ≡ tilted m (x -ℤ x') (y -ℤ y')
between m x y x' y' = omega (arith, ints, less m y y')

spread_between : (u m x y x' y' : ℤ)
    → u *ℤ (tilted m x y -ℤ tilted m x' y') ≡ m *ℤ (u *ℤ (y -ℤ y')) -ℤ u *ℤ (x -ℤ x')
spread_between u m x y x' y' = ap (λ z. u *ℤ z) (between m x y x' y') ∙ spread u m (x -ℤ x') (y -ℤ y')

-- a balance of heights and one of places across make one of tilted heights
tilt : (p q u v m a1 a2 b1 b2 c1 c2 d1 d2 : ℤ)
    → p *ℤ d2 -ℤ q *ℤ c2 ≡ u *ℤ (d2 -ℤ c2) -ℤ v *ℤ (b2 -ℤ a2)
    → p *ℤ d1 -ℤ q *ℤ c1 ≡ u *ℤ (d1 -ℤ c1) -ℤ v *ℤ (b1 -ℤ a1)
    → p *ℤ tilted m d1 d2 -ℤ q *ℤ tilted m c1 c2
    ≡ u *ℤ (tilted m d1 d2 -ℤ tilted m c1 c2) -ℤ v *ℤ (tilted m b1 b2 -ℤ tilted m a1 a2)
tilt p q u v m a1 a2 b1 b2 c1 c2 d1 d2 e f =
    joined (m *ℤ (p *ℤ d2)) (m *ℤ (q *ℤ c2)) (m *ℤ (u *ℤ (d2 -ℤ c2))) (m *ℤ (v *ℤ (b2 -ℤ a2))) _ _ _ _ _ _ _ _
    (sym (less m (p *ℤ d2) (q *ℤ c2)) ∙ ap (λ z. m *ℤ z) e ∙ less m (u *ℤ (d2 -ℤ c2)) (v *ℤ (b2 -ℤ a2))) f
    (spread p m d1 d2) (spread q m c1 c2) (spread_between u m d1 d2 c1 c2) (spread_between v m b1 b2 a1 a2)
  where
    joined : (i j k l i' j' k' l' x y z w : ℤ) → i -ℤ j ≡ k -ℤ l → i' -ℤ j' ≡ k' -ℤ l' → x ≡ i -ℤ i' → y ≡ j -ℤ j'
        → z ≡ k -ℤ k' → w ≡ l -ℤ l' → x -ℤ y ≡ z -ℤ w
    joined i j k l i' j' k' l' x y z w e f ex ey ez ew = omega (arith, ints)

pub balance : (m a1 a2 b1 b2 c1 c2 d1 d2 : ℤ)
    → area a1 a2 b1 b2 c1 c2 *ℤ tilted m d1 d2 -ℤ area a1 a2 b1 b2 d1 d2 *ℤ tilted m c1 c2
    ≡ turn a1 a2 b1 b2 *ℤ (tilted m d1 d2 -ℤ tilted m c1 c2) -ℤ turn c1 c2 d1 d2 *ℤ (tilted m b1 b2 -ℤ tilted m a1 a2)
balance m a1 a2 b1 b2 c1 c2 d1 d2 =
    tilt (area a1 a2 b1 b2 c1 c2) (area a1 a2 b1 b2 d1 d2) (turn a1 a2 b1 b2) (turn c1 c2 d1 d2) m a1 a2 b1 b2 c1 c2 d1 d2
    (balance_up a1 a2 b1 b2 c1 c2 d1 d2) (balance_across a1 a2 b1 b2 c1 c2 d1 d2)

-- ---- signs
-- t goes from a up to b, and u from c up to d, all by their heights, and both reach the origin: p and q are the areas of c and d with t,
-- r and s those of a and b with u, and x and y those of the origin with t and with u
pub record Balanced (p q r s x y a b c d : ℤ) : Type 0 where
  pub ends : p *ℤ d -ℤ q *ℤ c ≡ x *ℤ (d -ℤ c) -ℤ y *ℤ (b -ℤ a)
  pub begins : r *ℤ b -ℤ s *ℤ a ≡ y *ℤ (b -ℤ a) -ℤ x *ℤ (d -ℤ c)
  pub parted : p +ℤ r ≡ q +ℤ s

-- the same with t and u in each other's place, and right and left too
mirrored : (p q r s x y a b c d : ℤ) → Balanced p q r s x y a b c d
    → Balanced (neg_ℤ r) (neg_ℤ s) (neg_ℤ p) (neg_ℤ q) (neg_ℤ y) (neg_ℤ x) c d a b
mirrored p q r s x y a b c d h = record {
  ends = omega (arith, ints, neg_left r b, neg_left s a, neg_left y (b -ℤ a), neg_left x (d -ℤ c));
  begins = omega (arith, ints, neg_left p d, neg_left q c, neg_left y (b -ℤ a), neg_left x (d -ℤ c));
  parted = omega (arith, ints);
}

first_end : (p q r s a b c d n : ℤ) → p +ℤ r ≡ q +ℤ s → p *ℤ d -ℤ q *ℤ c ≡ n → r *ℤ b -ℤ s *ℤ a ≡ neg_ℤ n
    → r *ℤ (b -ℤ a) ≡ p *ℤ (a -ℤ d) +ℤ q *ℤ (c -ℤ a)
first_end p q r s a b c d n e f g =
    let h : s ≡ p +ℤ r -ℤ q = omega (arith, ints) in
    let k : s *ℤ a ≡ (p +ℤ r -ℤ q) *ℤ a = ap (λ z. z *ℤ a) h in
    omega (arith, ints, f, g, k, dist_right (p +ℤ r) (neg_ℤ q) a, dist_right p r a, neg_left q a, less r b a, less p a d, less q c a)

is_above : (k h : ℤ) → pos 0 <ℤ h → pos 0 <ℤ (k *ℤ h) → pos 0 <ℤ k
is_above k h hh e =
    by_lt_z (pos 0) k (λ (m : pos 0 <ℤ k). m) (λ (m : k ≤ℤ pos 0). absurd (omega (arith, ints, down_up k h m (weak _ _ hh))))

begins_left_of : (p q r a b c d : ℤ) → r *ℤ (b -ℤ a) ≡ p *ℤ (a -ℤ d) +ℤ q *ℤ (c -ℤ a)
    → p <ℤ pos 0 → pos 0 ≤ℤ q → a ≤ℤ c → a <ℤ d → a <ℤ b → pos 0 <ℤ r
begins_left_of p q r a b c d e hp hq hac had hab =
    is_above r (b -ℤ a) (omega (arith, ints)) (omega (arith, ints, e, below_below p (a -ℤ d) hp (omega (arith, ints)), up_up q (c -ℤ a) hq (omega (arith, ints))))

-- u begins right of t, and the origin is not as the order wants it: so u begins below the origin, and ends on t or left of it
ends_left : (p q c d : ℤ) → p <ℤ pos 0 → c ≤ℤ pos 0 → pos 0 ≤ℤ d → c <ℤ d → pos 0 ≤ℤ (p *ℤ d -ℤ q *ℤ c)
    → (c <ℤ pos 0) × (pos 0 ≤ℤ q)
ends_left p q c d hp hc hd hcd n =
    by_lt_z c (pos 0)
    (λ (k : c <ℤ pos 0). (k, not_right k))
    (λ (k : pos 0 ≤ℤ c).
    let z : c ≡ pos 0 = omega (arith, ints) in
    absurd (omega (arith, ints, ap (λ z. q *ℤ z) z, below_above p d hp (omega (arith, ints)))))
  where
    not_right : c <ℤ pos 0 → pos 0 ≤ℤ q
    not_right k =
        by_lt_z q (pos 0)
        (λ (l : q <ℤ pos 0). absurd (omega (arith, ints, below_below q c l k, down_up p d (weak _ _ hp) hd)))
        (λ (l : pos 0 ≤ℤ q). l)

none_above : (r b : ℤ) → pos 0 <ℤ r → pos 0 ≤ℤ b → (r *ℤ b) ≤ℤ pos 0 → b ≡ pos 0
none_above r b hr hb h =
    by_lt_z (pos 0) b (λ (k : pos 0 <ℤ b). absurd (omega (arith, ints, above_above r b hr k))) (λ (k : b ≤ℤ pos 0). omega (arith, ints))

none_below : (s a : ℤ) → pos 0 ≤ℤ s → a <ℤ pos 0 → pos 0 ≤ℤ (s *ℤ a) → s ≡ pos 0
none_below s a hs ha h =
    by_lt_z (pos 0) s (λ (k : pos 0 <ℤ s). absurd (omega (arith, ints, above_below s a k ha))) (λ (k : s ≤ℤ pos 0). omega (arith, ints))

not_beyond : (x y h k n : ℤ) → n ≡ x *ℤ h -ℤ y *ℤ k → pos 0 ≤ℤ x → y ≤ℤ pos 0 → pos 0 ≤ℤ h → pos 0 ≤ℤ k → pos 0 ≤ℤ n
not_beyond x y h k n e hx hy hh hk = omega (arith, ints, up_up x h hx hh, down_up y k hy hk)

-- u begins right of t, and later. Where the origin is neither right of t nor left of u, the ends of each lie on both sides of the other, or
-- the upper end of one is on the other and at the height of the origin
pub later_right : (p q r s x y a b c d : ℤ) → Balanced p q r s x y a b c d → p <ℤ pos 0 → pos 0 ≤ℤ x → y ≤ℤ pos 0
    → a ≤ℤ c → c <ℤ b → c <ℤ d → c ≤ℤ pos 0 → pos 0 ≤ℤ b → pos 0 ≤ℤ d
    → (pos 0 <ℤ q → pos 0 <ℤ r → s <ℤ pos 0 → ⊥) → (b ≡ pos 0 → s ≡ pos 0 → ⊥) → (d ≡ pos 0 → q ≡ pos 0 → ⊥) → ⊥
later_right p q r s x y a b c d h hp hx hy hac hcb hcd hc hb hd cross touch end =
    let e = h.ends in
    let f = h.begins in
    let n : pos 0 ≤ℤ (p *ℤ d -ℤ q *ℤ c) = not_beyond x y (d -ℤ c) (b -ℤ a) _ e hx hy (omega (arith, ints)) (omega (arith, ints)) in
    let g : r *ℤ b -ℤ s *ℤ a ≡ neg_ℤ (p *ℤ d -ℤ q *ℤ c) = omega (arith, ints) in
    let k = ends_left p q c d hp hc hd hcd n in
    let hq : pos 0 ≤ℤ q = k.1 in
    let hr : pos 0 <ℤ r = begins_left_of p q r a b c d (first_end p q r s a b c d _ h.parted refl g) hp hq hac (omega (arith, ints)) (omega (arith, ints)) in
    let ha : a <ℤ pos 0 = omega (arith, ints, k.0) in
    by_lt_z (pos 0) q
    (λ (l : pos 0 <ℤ q). by_lt_z s (pos 0)
    (λ (m : s <ℤ pos 0). cross l hr m)
    (λ (m : pos 0 ≤ℤ s). on_u n g ha hr m))
    (λ (l : q ≤ℤ pos 0). on_t n (omega (arith, ints)))
  where
    on_u : pos 0 ≤ℤ (p *ℤ d -ℤ q *ℤ c) → r *ℤ b -ℤ s *ℤ a ≡ neg_ℤ (p *ℤ d -ℤ q *ℤ c) → a <ℤ pos 0 → pos 0 <ℤ r → pos 0 ≤ℤ s → ⊥
    on_u n g ha hr hs =
        let k = up_up r b (weak _ _ hr) hb in
        let l = up_down s a hs (weak _ _ ha) in
        touch (none_above r b hr hb (omega (arith, ints))) (none_below s a hs ha (omega (arith, ints)))

    on_t : pos 0 ≤ℤ (p *ℤ d -ℤ q *ℤ c) → q ≡ pos 0 → ⊥
    on_t n z =
        let k = ap (λ z. z *ℤ c) z in
        end (by_lt_z (pos 0) d (λ (m : pos 0 <ℤ d). absurd (omega (arith, ints, below_above p d hp m))) (λ (m : d ≤ℤ pos 0). omega (arith, ints))) z

-- the same where t begins left of u, and later
pub later_left : (p q r s x y a b c d : ℤ) → Balanced p q r s x y a b c d → pos 0 <ℤ r → pos 0 ≤ℤ x → y ≤ℤ pos 0
    → c ≤ℤ a → a <ℤ d → a <ℤ b → a ≤ℤ pos 0 → pos 0 ≤ℤ b → pos 0 ≤ℤ d
    → (p <ℤ pos 0 → pos 0 <ℤ q → s <ℤ pos 0 → ⊥) → (b ≡ pos 0 → s ≡ pos 0 → ⊥) → (d ≡ pos 0 → q ≡ pos 0 → ⊥) → ⊥
later_left p q r s x y a b c d h hr hx hy hca had hab ha hb hd cross touch end =
    later_right (neg_ℤ r) (neg_ℤ s) (neg_ℤ p) (neg_ℤ q) (neg_ℤ y) (neg_ℤ x) c d a b (mirrored p q r s x y a b c d h)
    (omega (arith, ints)) (omega (arith, ints)) (omega (arith, ints)) hca had hab ha hd hb
    (λ (i : pos 0 <ℤ neg_ℤ s) (j : pos 0 <ℤ neg_ℤ p) (k : neg_ℤ q <ℤ pos 0). cross (omega (arith, ints)) (omega (arith, ints)) (omega (arith, ints)))
    (λ (i : d ≡ pos 0) (j : neg_ℤ q ≡ pos 0). end i (omega (arith, ints)))
    (λ (i : b ≡ pos 0) (j : neg_ℤ s ≡ pos 0). touch i (omega (arith, ints)))

-- both begin at one point, and u ends right of t: the origin is as the order wants it, or is where they begin
pub together : (q x y a b c d s : ℤ) → Balanced (pos 0) q (pos 0) s x y a b c d → q <ℤ pos 0 → pos 0 ≤ℤ x → y ≤ℤ pos 0
    → a ≤ℤ b → c ≤ℤ d → c ≤ℤ pos 0 → c ≡ pos 0
together q x y a b c d s h hq hx hy hab hcd hc =
    let e = h.ends in
    let n : pos 0 ≤ℤ (pos 0 *ℤ d -ℤ q *ℤ c) = not_beyond x y (d -ℤ c) (b -ℤ a) _ e hx hy (omega (arith, ints)) (omega (arith, ints)) in
    by_lt_z c (pos 0) (λ (k : c <ℤ pos 0). absurd (omega (arith, ints, below_below q c hq k))) (λ (k : pos 0 ≤ℤ c). omega (arith, ints))

-- ---- heights tell what comes first
step : (m y y' : ℤ) → pos 0 <ℤ m → y <ℤ y' → (m *ℤ y +ℤ m) ≤ℤ (m *ℤ y')
step m y y' hm h =
    let k : pos 0 ≤ℤ (m *ℤ (y' -ℤ y -ℤ pos 1)) = up_up m (y' -ℤ y -ℤ pos 1) (weak _ _ hm) (omega (arith, ints)) in
    omega (arith, ints, less m (y' -ℤ y) (pos 1), less m y' y)

pub heights : (m x y x' y' : ℤ) → (x -ℤ x') <ℤ m → (x' -ℤ x) <ℤ m
    → (int_lt y y' || (int_eq y y' && int_lt x' x)) ≡ int_lt (tilted m x y) (tilted m x' y')
heights m x y x' y' hl hr =
    let k = tilted m x y in
    let l = tilted m x' y' in
    let hm : pos 0 <ℤ m = omega (arith, ints) in
    by_lt_z y y' (λ (h : y <ℤ y'). let g : k <ℤ l = omega (arith, ints, step m y y' hm h) in lower x x' y y' k l h g)
    (λ (h : y' ≤ℤ y). by_lt_z y' y
    (λ (h : y' <ℤ y). let g : l <ℤ k = omega (arith, ints, step m y' y hm h) in higher x x' y y' k l h g)
    (λ (e : y ≤ℤ y').
    let h : y ≡ y' = omega (arith, ints) in
    let g : k -ℤ l ≡ x' -ℤ x = omega (arith, ints, ap (λ z. m *ℤ z) h) in
    level x x' y y' k l h g))
  where
    below : (k l : ℤ) → k <ℤ l → int_lt k l ≡ true
    below k l h = grind (arith, ints)

    above : (k l : ℤ) → l ≤ℤ k → int_lt k l ≡ false
    above k l h = grind (arith, ints)

    differs : (k l : ℤ) → l <ℤ k → int_eq k l ≡ false
    differs k l h = grind (arith, ints)

    equals : (k l : ℤ) → k ≡ l → int_eq k l ≡ true
    equals k l h = grind (arith, ints)

    lower : (x x' y y' k l : ℤ) → y <ℤ y' → k <ℤ l → (int_lt y y' || (int_eq y y' && int_lt x' x)) ≡ int_lt k l
    lower x x' y y' k l h e = rw (below y y' h, below k l e)

    higher : (x x' y y' k l : ℤ) → y' <ℤ y → l <ℤ k → (int_lt y y' || (int_eq y y' && int_lt x' x)) ≡ int_lt k l
    higher x x' y y' k l h e =
        ap₂ (λ p q. p || (q && int_lt x' x)) (above y y' (weak _ _ h)) (differs y y' h) ∙ sym (above k l (weak _ _ e))

    level : (x x' y y' k l : ℤ) → y ≡ y' → k -ℤ l ≡ x' -ℤ x → (int_lt y y' || (int_eq y y' && int_lt x' x)) ≡ int_lt k l
    level x x' y y' k l h e =
        ap₂ (λ p q. p || (q && int_lt x' x)) (above y y' (omega (arith, ints))) (equals y y' h)
        ∙ by_lt_z x' x
        (λ (g : x' <ℤ x). below x' x g ∙ sym (below k l (omega (arith, ints))))
        (λ (g : x ≤ℤ x'). above x' x g ∙ sym (above k l (omega (arith, ints))))
