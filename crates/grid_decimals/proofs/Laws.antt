-- Rounding is near, exact where no decimal is left out, and keeps whole numbers of the grid apart.
use Rattle.kit_words.proofs.Common.{◌≡◌, ℕ, zero, suc, ◌+◌, ◌-◌, ◌*◌, ◌/◌, ◌<◌, ◌≤◌, ◌^◌, refl, ap, subst, sym, ◌∙◌, true}
use Rattle.kit_words.proofs.Common.{arith, ints, ℤ, pos, negsuc, ◌+ℤ◌, ◌-ℤ◌, ◌*ℤ◌, ◌<ℤ◌, ◌≤ℤ◌, int_div_euclid, int_lt, unsigned_abs}
use Rattle.kit_words.proofs.Common.{cases_lt, inl, inr, mul-le-mul_left, mul-le-mul_right, pow-suc, false≢true, lt-ltb, ltb-true}
use Rattle.grid_decimals.specs.Common.{AxisOf, GridOf, IsApart, IsExact, IsNear, fewest, least_decimals, least_scale, nearest}
use Rattle.grid_decimals.proofs.Fewest.{fewest_none, fewest_step, fewest_stop}
use Rattle.grid_decimals.proofs.Nearest.{nearest_same}
use Rattle.grid_decimals.proofs.Powers.{power_pos}

-- ---- a quotient, rounded down

-- so many times the divisor are at most the number, and once more is more than it
record IsQuotient (w : ℤ) (b : ℕ) (p : ℤ) : Type 0 where
  low : p ≤ℤ w
  high : w <ℤ (p +ℤ pos b)

quotient : (w : ℤ) (b : ℕ) (p : ℤ) → 0 < b → p ≡ pos b *ℤ int_div_euclid w (pos b) → IsQuotient w b p
quotient (pos a) b p h e =
    let least : b * (a / b) ≤ a = omega arith in
    let most : a < b * (a / b) + b = omega arith in
    record { low = omega (arith, ints); high = omega (arith, ints) }
quotient (negsuc a) b p h e =
    let least : b * (a / b) ≤ a = omega arith in
    let most : a < b * (a / b) + b = omega arith in
    record { low = omega (arith, ints); high = omega (arith, ints) }

-- ---- near

gap : (t a b : ℤ) (u : ℕ) → t ≡ a -ℤ b → (pos 2 *ℤ a) ≤ℤ (pos 2 *ℤ b +ℤ pos u) → (pos 2 *ℤ b) ≤ℤ (pos 2 *ℤ a +ℤ pos u)
    → 2 * unsigned_abs t ≤ u
gap (pos t) a b u e h k = omega (arith, ints)
gap (negsuc t) a b u e h k = omega (arith, ints)

twice : (u : ℕ) (q : ℤ) → pos (2 * u) *ℤ q ≡ pos 2 *ℤ (pos u *ℤ q)
twice u (pos n) = omega (arith, ints)
twice u (negsuc n) = omega (arith, ints)

near_by : (u : ℕ) (z q : ℤ) → 0 < u → q ≡ int_div_euclid (pos 2 *ℤ z +ℤ pos u) (pos (2 * u))
    → 2 * unsigned_abs ((pos u *ℤ q) -ℤ z) ≤ u
near_by u z q h e =
    let some : 0 < 2 * u = omega arith in
    let of = quotient (pos 2 *ℤ z +ℤ pos u) (2 * u) (pos 2 *ℤ (pos u *ℤ q)) some (sym (twice u q) ∙ ap (λ y. pos (2 * u) *ℤ y) e) in
    let low : (pos 2 *ℤ (pos u *ℤ q)) ≤ℤ (pos 2 *ℤ z +ℤ pos u) = of.low in
    let high : (pos 2 *ℤ z +ℤ pos u) <ℤ (pos 2 *ℤ (pos u *ℤ q) +ℤ pos (2 * u)) = of.high in
    gap ((pos u *ℤ q) -ℤ z) (pos u *ℤ q) z u refl low (omega (arith, ints))

pub near : (d k : ℕ) (z : ℤ) → IsNear d k z
near d k z = near_by (10 ^ (d - k)) z (nearest d k z) (power_pos (d - k)) refl

-- ---- exact

pub exact : (d : ℕ) (z : ℤ) → IsExact d z
exact d z =
    let same : d + 0 ≡ d = omega arith in
    sym (nearest_same 0 z refl d ∙ ap (λ j. nearest j d z) same)

-- ---- apart

times_less : (b : ℕ) (m n : ℤ) → (pos b *ℤ m) <ℤ (pos b *ℤ n) → int_lt m n ≡ true
times_less b (pos m) (pos n) h =
    elim (cases_lt m n) [
      | inl lt ↦ lt-ltb m n lt
      | inr le ↦ absurd (omega (arith, ints, mul-le-mul_left b le))
    ]
times_less b (pos m) (negsuc n) h = absurd (omega (arith, ints))
times_less b (negsuc m) (pos n) h = refl
times_less b (negsuc m) (negsuc n) h =
    elim (cases_lt n m) [
      | inl lt ↦ lt-ltb n m lt
      | inr le ↦ absurd (omega (arith, ints, mul-le-mul_left b le))
    ]

apart_by : (u : ℕ) (y z : ℤ) → 0 < u → (y +ℤ pos u) ≤ℤ z
    → int_lt (int_div_euclid (pos 2 *ℤ y +ℤ pos u) (pos (2 * u))) (int_div_euclid (pos 2 *ℤ z +ℤ pos u) (pos (2 * u))) ≡ true
apart_by u y z h le =
    let some : 0 < 2 * u = omega arith in
    let p = int_div_euclid (pos 2 *ℤ y +ℤ pos u) (pos (2 * u)) in
    let q = int_div_euclid (pos 2 *ℤ z +ℤ pos u) (pos (2 * u)) in
    let of = quotient (pos 2 *ℤ y +ℤ pos u) (2 * u) (pos (2 * u) *ℤ p) some refl in
    let to = quotient (pos 2 *ℤ z +ℤ pos u) (2 * u) (pos (2 * u) *ℤ q) some refl in
    times_less (2 * u) p q (less (pos (2 * u) *ℤ p) (pos (2 * u) *ℤ q) y z u le of.low to.high)
  where
    less : (a b y z : ℤ) (u : ℕ) → (y +ℤ pos u) ≤ℤ z → a ≤ℤ (pos 2 *ℤ y +ℤ pos u) → (pos 2 *ℤ z +ℤ pos u) <ℤ (b +ℤ pos (2 * u)) → a <ℤ b
    less a b y z u le low high = omega (arith, ints)

-- the next whole number is a scale further on
further : (m n : ℤ) (s : ℕ) → int_lt m n ≡ true → ((m *ℤ pos s) +ℤ pos s) ≤ℤ (n *ℤ pos s)
further (pos m) (pos n) s h =
    let lt : m + 1 ≤ n = omega (arith, ltb-true m n h) in
    omega (arith, ints, mul-le-mul_right s lt)
further (pos m) (negsuc n) s h = absurd (false≢true h)
further (negsuc m) (pos n) s h = omega (arith, ints)
further (negsuc m) (negsuc n) s h =
    let lt : n + 1 ≤ m = omega (arith, ltb-true n m h) in
    omega (arith, ints, mul-le-mul_right s lt)

apart_along : (u s : ℕ) (t m n : ℤ) → u ≤ s → int_lt m n ≡ true → ((m *ℤ pos s +ℤ t) +ℤ pos u) ≤ℤ (n *ℤ pos s +ℤ t)
apart_along u s t m n le h =
    let step : ((m *ℤ pos s) +ℤ pos s) ≤ℤ (n *ℤ pos s) = further m n s h in
    omega (arith, ints)

pub apart : (d k : ℕ) (a : AxisOf) (s : ℕ) → a.scale ≡ pos s → 10 ^ (d - k) ≤ s → IsApart d k a
apart d k a s e le = λ m n h.
    subst (λ (r : ℤ). int_lt (nearest d k ((m *ℤ r) +ℤ a.translate)) (nearest d k ((n *ℤ r) +ℤ a.translate)) ≡ true) (sym e)
    (apart_by (10 ^ (d - k)) ((m *ℤ pos s) +ℤ a.translate) ((n *ℤ pos s) +ℤ a.translate) (power_pos (d - k))
    (apart_along (10 ^ (d - k)) s a.translate m n le h))

-- ---- the decimals that the code keeps

fewest_next : (d units length : ℕ) → units * 10 ≤ length → fewest (suc d) units length ≡ fewest d (units * 10) length
fewest_next d units length le =
    let back : suc d - 1 ≡ d = omega arith in
    let some : 1 ≤ suc d = omega arith in
    fewest_step (suc d) units length some le ∙ ap (λ e. fewest e (units * 10) length) back

fewest_most : (d units length : ℕ) → fewest d units length ≤ d
fewest_most zero units length = omega (arith, fewest_none units length)
fewest_most (suc d) units length =
    elim (cases_lt length (units * 10)) [
      | inl lt ↦ omega (arith, fewest_stop (suc d) units length lt)
      | inr le ↦ omega (arith, fewest_next d units length le, fewest_most d (units * 10) length)
    ]

-- so many units of the last decimal that is kept are within the length
pub fewest_within : (d units length : ℕ) → units ≤ length → units * 10 ^ (d - fewest d units length) ≤ length
fewest_within zero units length h =
    let none : 0 - fewest 0 units length ≡ 0 = omega arith in
    subst (λ j. units * 10 ^ j ≤ length) (sym none) (omega arith)
fewest_within (suc d) units length h =
    elim (cases_lt length (units * 10)) [
      | inl lt ↦
          let none : suc d - fewest (suc d) units length ≡ 0 = omega (arith, fewest_stop (suc d) units length lt) in
          subst (λ j. units * 10 ^ j ≤ length) (sym none) (omega arith)
      | inr le ↦
          let left = d - fewest d (units * 10) length in
          let more : suc d - fewest (suc d) units length ≡ suc (d - fewest d (units * 10) length) =
          omega (arith, fewest_next d units length le, fewest_most d (units * 10) length) in
          subst (λ j. units * 10 ^ j ≤ length) (sym more)
          (omega (arith, fewest_within d (units * 10) length le, ap (λ q. units * q) (pow-suc 10 left)))
    ]

-- a unit of the last of the least decimals is within either scale
least_within : (g : GridOf) → 0 < least_scale g → 10 ^ (g.decimals - least_decimals g) ≤ least_scale g
least_within g h = omega (arith, fewest_within g.decimals 1 (least_scale g) h)

pub apart_x : (g : GridOf) (s : ℕ) → g.x.scale ≡ pos s → 0 < least_scale g → IsApart g.decimals (least_decimals g) g.x
apart_x g s e h =
    let size : unsigned_abs g.x.scale ≡ s = ap unsigned_abs e in
    let lesser : least_scale g ≤ unsigned_abs g.x.scale = omega arith in
    apart g.decimals (least_decimals g) g.x s e (omega (arith, least_within g h))

pub apart_y : (g : GridOf) (s : ℕ) → g.y.scale ≡ pos s → 0 < least_scale g → IsApart g.decimals (least_decimals g) g.y
apart_y g s e h =
    let size : unsigned_abs g.y.scale ≡ s = ap unsigned_abs e in
    let lesser : least_scale g ≤ unsigned_abs g.y.scale = omega arith in
    apart g.decimals (least_decimals g) g.y s e (omega (arith, least_within g h))
