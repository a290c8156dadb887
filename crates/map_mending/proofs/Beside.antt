-- The positions of a path are beside its segment.
use Rattle.kit_words.proofs.Common.{cond, ◌≡◌, ◌≤◌, ◌<◌, ◌+◌, ◌*◌, ℤ, pos, ◌-ℤ◌, ◌*ℤ◌, ◌+ℤ◌, ◌<ℤ◌, Bool, true, false}
use Rattle.kit_words.proofs.Common.{refl, sym, ap, ap₂, ◌∙◌, subst, List, [], ◌∷◌, ◌++◌, map, length, unsigned_abs}
use Rattle.kit_words.proofs.Common.{arith, All, AllByRecursion, list_all, IsStrictlySortedBy, int_cmp, MatchOrdering}
use Rattle.kit_words.proofs.Common.{Less, int_ranked, ints, All-tail, and_parts, leb-true, all_front}
use Rattle.grid_geometry.specs.Common.{Position, Segment, segment_eq, orientation, is_in_box}
use Rattle.grid_geometry.proofs.Turns.{orientation-start}
use Rattle.ring_machine.proofs.Common.{segment_eq-true}
use Rattle.segment_paths.specs.Common.{is_near, along}
use Rattle.segment_paths.specs.Common.{PathOfSegment, IsWay, inner_of}
use Rattle.map_mending.specs.Common.{IsBeside}

less : (x y : ℤ) → int_cmp x y ≡ Less → x <ℤ y
less x y h = subst (λ o. MatchOrdering o (x <ℤ y) (x ≡ y) (y <ℤ x)) h (int_ranked x y (int_cmp x y) refl)

-- the lesser end stands at 0
begin : (s : Segment) → along s s.lo ≡ pos 0
unfolding along
begin s =
    let x : s.lo.x -ℤ s.lo.x ≡ pos 0 = omega (arith, ints) in
    let y : s.lo.y -ℤ s.lo.y ≡ pos 0 = omega (arith, ints) in
    ap₂ (λ a b. a *ℤ (s.hi.x -ℤ s.lo.x) +ℤ b *ℤ (s.hi.y -ℤ s.lo.y)) x y ∙ omega (arith, ints)

-- a triangle with two equal corners is none
pub no_triangle : (a b : Position) → unsigned_abs (orientation a b b) ≡ 0
unfolding orientation
no_triangle a b = omega (arith, ints)

near_line : (s : Segment) (q : Position) → is_near q s ≡ true
    → 2 * unsigned_abs (orientation s.lo s.hi q) ≤ unsigned_abs (s.hi.x -ℤ s.lo.x) + unsigned_abs (s.hi.y -ℤ s.lo.y)
unfolding is_near
near_line s q h = leb-true _ _ (and_parts (is_in_box q s.lo s.hi) _ h).1

-- ---- along a path

-- what ascends up to z is below it
below_last : (zs : List ℤ) (z : ℤ) → IsStrictlySortedBy int_cmp (zs ++ z ∷ []) → AllByRecursion (λ y. y <ℤ z) zs
unfolding IsStrictlySortedBy
below_last [] z h = tt
below_last (y ∷ zs) z h = (less y z (last zs h.0), below_last zs z h.1)
  where
    last : (xs : List ℤ) → AllByRecursion (λ x. int_cmp y x ≡ Less) (xs ++ z ∷ []) → int_cmp y z ≡ Less
    last [] k = k.0
    last (x ∷ xs) k = last xs k.1

above_first : (y : ℤ) (zs : List ℤ) → AllByRecursion (λ z. int_cmp y z ≡ Less) zs → AllByRecursion (λ z. y <ℤ z) zs
above_first y [] h = tt
above_first y (z ∷ zs) h = (less y z h.0, above_first y zs h.1)

map_push : (f : Position → ℤ) (ps : List Position) (q : Position) → map f (ps ++ q ∷ []) ≡ map f ps ++ f q ∷ []
map_push f [] q = refl
map_push f (p ∷ ps) q = ap (λ z. f p ∷ z) (map_push f ps q)

module _ (s : Segment) where
  inner_beside : (inner : List Position) → list_all (λ q. is_near q s) inner ≡ true
      → AllByRecursion (λ z. pos 0 <ℤ z) (map (along s) inner) → AllByRecursion (λ z. z <ℤ along s s.hi) (map (along s) inner) → AllByRecursion (IsBeside s) inner
  inner_beside [] h k l = tt
  inner_beside (q ∷ inner) h k l =
      let both = and_parts (is_near q s) (list_all (λ p. is_near p s) inner) h in (
        record { near = near_line s q both.0; begins = omega (arith, ints, k.0); ends = omega (arith, ints, l.0) },
        inner_beside inner both.1 k.1 l.1,
      )

  -- a segment with a path is no position alone, and its path stays beside it
  pub way_beside : (inner : List Position) → IsWay s inner → (pos 0 <ℤ along s s.hi) × AllByRecursion (IsBeside s) (s.lo ∷ inner)
  unfolding IsStrictlySortedBy
  way_beside inner w =
      let up : IsStrictlySortedBy int_cmp (map (along s) (s.lo ∷ inner) ++ along s s.hi ∷ []) = subst (IsStrictlySortedBy int_cmp) (map_push (along s) (s.lo ∷ inner) s.hi) w.onward in
      let ends = below_last (map (along s) (s.lo ∷ inner)) (along s s.hi) up in
      let begins = all_front (λ z. along s s.lo <ℤ z) (map (along s) inner) (along s s.hi ∷ [])
      (above_first (along s s.lo) (map (along s) inner ++ along s s.hi ∷ []) up.0) in
      let zero = begin s in
      let long : pos 0 <ℤ along s s.hi = subst (λ z. z <ℤ along s s.hi) zero ends.0 in (
        long,
        (
          record { near = omega (arith, ap unsigned_abs (orientation-start s.lo s.hi)); begins = omega (arith, ints, zero); ends = omega (arith, ints, zero, long) },
          inner_beside inner w.near (subst (λ y. AllByRecursion (λ z. y <ℤ z) (map (along s) inner)) zero begins) ends.1,
        ),
      )

-- ---- the path of a segment

chosen : (p : PathOfSegment) (s : Segment) (rest : List Position) (b : Bool) → segment_eq s p.0 ≡ b → IsWay p.0 p.1 → (0 < length rest → IsWay s rest)
    → 0 < length (cond b p.1 rest) → IsWay s (cond b p.1 rest)
chosen p s rest true e here later some = subst (λ (t : Segment). IsWay t p.1) (sym (segment_eq-true s p.0 e)) here
chosen p s rest false e here later some = later some

pub way_of : (paths : List PathOfSegment) (s : Segment) → All (λ p. IsWay p.0 p.1) paths → 0 < length (inner_of paths s) → IsWay s (inner_of paths s)
way_of [] s h some = absurd (omega arith)
way_of (p ∷ ps) s h some =
    chosen p s (inner_of ps s) (segment_eq s p.0) refl (h 0 p (omega arith)) (way_of ps s (All-tail (λ (q : PathOfSegment). IsWay q.0 q.1) p ps h)) some

-- a position alone has none
pub none_alone : (paths : List PathOfSegment) (s : Segment) → s.lo ≡ s.hi → All (λ p. IsWay p.0 p.1) paths → inner_of paths s ≡ []
none_alone paths s same h = by (inner_of paths s) refl
  where
    by : (inner : List Position) → inner_of paths s ≡ inner → inner_of paths s ≡ []
    by [] e = e
    by (q ∷ qs) e =
        let w = way_of paths s h (omega (arith, ap length e)) in
        let long = (way_beside s (inner_of paths s) w).0 in
        let zero = ap (along s) (sym same) ∙ begin s in
        absurd (omega (arith, ints, long, zero))
