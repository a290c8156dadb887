-- One more cell of a range is done.
use Rattle.kit_words.proofs.Common.{get_or-set_same, get_or-set_other, length-set, eqb-false, ◌≡◌, ◌≢◌, ◌≤◌, ◌<◌, ◌+◌}
use Rattle.kit_words.proofs.Common.{◌-◌, ℕ, zero, suc, Bool, true, false, cond, eqb, ◌&&◌, List, [], ◌∷◌, ◌++◌, length}
use Rattle.kit_words.proofs.Common.{get_or, set, refl, ◌∙◌, arith, replicate}
use Rattle.std.proofs.lemmas.Bool.{eqb-true}
use Rattle.grid_geometry.specs.Common.{Segment}
use Rattle.segment_sets.specs.Common.{segment_is, times_in, Loses, cell, column, GainsIf, GrowsIf, LosesIf, GainsIn}
use Rattle.segment_sets.specs.Common.{GrowsIn, LosesIn, IsSquare, within}
use Rattle.segment_sets.proofs.Singles.{times-push}

pub by_is : {P : Type 0} (a b : ℕ) → (a ≡ b → P) → (a ≢ b → P) → P
by_is {P} a b f g = step (eqb a b) refl
  where
    step : (c : Bool) → eqb a b ≡ c → P
    step true e = f (eqb-true a b e)
    step false e = g (eqb-false a b e)

within-here : (from j : ℕ) → from ≤ j → within from (j + 1) j ≡ true
within-here from j h = grind arith

within-between : (from j end : ℕ) → from ≤ j → j < end → within from end j ≡ true
within-between from j end h k = grind arith

within-past : (from j k : ℕ) → j ≤ k → within from j k ≡ false
within-past from j k h = grind arith

within-else : (from j k : ℕ) → k ≢ j → within from (j + 1) k ≡ within from j k
within-else from j k h = grind arith

within-less : (from j end k : ℕ) → j ≤ end → within from end k ≡ false → within from j k ≡ false
within-less from j end k h e = grind arith

-- what stands at k after a write at j
pub at-set : {X : Type 0} (P : X → Type 0) (xs : List X) (j k : ℕ) (c d : X) → j < length xs → (k ≡ j → P c) → (k ≢ j → P (get_or xs k d)) → P (get_or (set xs j c) k d)
at-set P xs j k c d some f g = by_is k j
    (λ e. rw (e, get_or-set_same xs j c d some) (f e))
    (λ n. rw (get_or-set_other xs j k c d n) (g n))

pub gains-more : (s : Segment) (from j : ℕ) (old mid : List (List Segment)) (c : List Segment) → from ≤ j → j < length mid → c ≡ cell mid j ++ s ∷ [] → GainsIf true s from j old mid → GainsIf true s from (j + 1) old (set mid j c)
gains-more s from j old mid c above some e so_far k t = at-set (λ (x : List Segment). times_in x t ≡ times_in (cell old k) t + cond (within from (j + 1) k && segment_is t s) 1 0) mid j k c [] some
    (λ (same : k ≡ j). let here : within from (j + 1) k ≡ true = rw same (within-here from j above) in
    let before : times_in (cell mid j) t ≡ times_in (cell old j) t + cond (within from j j && segment_is t s) 1 0 = so_far j t in
    let past : within from j j ≡ false = within-past from j j (omega arith) in
    let none : times_in (cell mid j) t ≡ times_in (cell old j) t + 0 = rw past at before in
    let push : times_in (cell mid j ++ s ∷ []) t ≡ times_in (cell mid j) t + cond (segment_is t s) 1 0 = times-push (cell mid j) s t in
    rw (here, e, same, push, none) (omega arith))
    (λ (other : k ≢ j). rw (within-else from j k other) (so_far k t))

-- a prefix of a range gained it: so some of the range did
front_grows : (a b d : Bool) (m n : ℕ) → (b ≡ false → a ≡ false) → n ≡ m + cond (a && d) 1 0 → (m ≤ n) × (n ≤ m + cond (b && d) 1 0)
front_grows a b d m n f e = (grind (arith, f), grind (arith, f))

pub loses-more : (s : Segment) (from j : ℕ) (old mid : List (List Segment)) (c : List Segment) → from ≤ j → j < length mid → Loses s (cell mid j) c → LosesIf true s from j old mid → LosesIf true s from (j + 1) old (set mid j c)
loses-more s from j old mid c above some lost so_far k t = at-set (λ (x : List Segment). times_in x t ≡ times_in (cell old k) t - cond (within from (j + 1) k && segment_is t s) 1 0) mid j k c [] some
    (λ (same : k ≡ j). let here : within from (j + 1) k ≡ true = rw same (within-here from j above) in
    let before : times_in (cell mid j) t ≡ times_in (cell old j) t - cond (within from j j && segment_is t s) 1 0 = so_far j t in
    let past : within from j j ≡ false = within-past from j j (omega arith) in
    let none : times_in (cell mid j) t ≡ times_in (cell old j) t - 0 = rw past at before in
    rw (here, same) (omega (arith, lost t, none)))
    (λ (other : k ≢ j). rw (within-else from j k other) (so_far k t))

-- a column with as many cells as before comes into its place
pub column-square : (n i : ℕ) (mid : List (List (List Segment))) (c : List (List Segment)) → i < n → length c ≡ length (column mid i) → IsSquare n mid → IsSquare n (set mid i c)
column-square n i mid c below e so_far = record {
  wide = length-set mid i c ∙ so_far.wide;
  high = λ k h. at-set (λ (x : List (List Segment)). length x ≡ n) mid i k c [] (omega (arith, below, so_far.wide))
      (λ (same : k ≡ i). e ∙ so_far.high i below)
      (λ (other : k ≢ i). so_far.high k h);
}

-- one more column of a cover is done
pub column-gains : (s : Segment) (left i low high : ℕ) (old mid : List (List (List Segment))) (c : List (List Segment)) → left ≤ i → i < length mid → GainsIf true s low high (column mid i) c → GainsIn s (record { left = left; right = i; low = low; high = high }) old mid → GainsIn s (record { left = left; right = i + 1; low = low; high = high }) old (set mid i c)
column-gains s left i low high old mid c above some gains so_far k = at-set (λ (x : List (List Segment)). GainsIf (within left (i + 1) k) s low high (column old k) x) mid i k c [] some
    (λ (same : k ≡ i) j t. let here : within left (i + 1) k ≡ true = rw same (within-here left i above) in
    let past : within left i i ≡ false = within-past left i i (omega arith) in
    let none : times_in (cell (column mid i) j) t ≡ times_in (cell (column old i) j) t + 0 = rw past at (so_far i j t) in
    rw (here, same) (omega (arith, gains j t, none)))
    (λ (other : k ≢ i). rw (within-else left i k other) (so_far k))

pub column-loses : (s : Segment) (left i low high : ℕ) (old mid : List (List (List Segment))) (c : List (List Segment)) → left ≤ i → i < length mid → LosesIf true s low high (column mid i) c → LosesIn s (record { left = left; right = i; low = low; high = high }) old mid → LosesIn s (record { left = left; right = i + 1; low = low; high = high }) old (set mid i c)
column-loses s left i low high old mid c above some loses so_far k = at-set (λ (x : List (List Segment)). LosesIf (within left (i + 1) k) s low high (column old k) x) mid i k c [] some
    (λ (same : k ≡ i) j t. let here : within left (i + 1) k ≡ true = rw same (within-here left i above) in
    let past : within left i i ≡ false = within-past left i i (omega arith) in
    let none : times_in (cell (column mid i) j) t ≡ times_in (cell (column old i) j) t - 0 = rw past at (so_far i j t) in
    rw (here, same) (omega (arith, loses j t, none)))
    (λ (other : k ≢ i). rw (within-else left i k other) (so_far k))

-- a column that was refused memory on the way
pub column-grows : (s : Segment) (left i right low high : ℕ) (old mid : List (List (List Segment))) (c : List (List Segment)) → left ≤ i → i < right → i < length mid → GrowsIf true s low high (column mid i) c → GainsIn s (record { left = left; right = i; low = low; high = high }) old mid → GrowsIn s (record { left = left; right = right; low = low; high = high }) old (set mid i c)
column-grows s left i right low high old mid c above below some grows so_far k = at-set (λ (x : List (List Segment)). GrowsIf (within left right k) s low high (column old k) x) mid i k c [] some
    (λ (same : k ≡ i) j t. let here : within left right k ≡ true = rw same (within-between left i right above below) in
    let past : within left i i ≡ false = within-past left i i (omega arith) in
    let none : times_in (cell (column mid i) j) t ≡ times_in (cell (column old i) j) t + 0 = rw past at (so_far i j t) in
    rw (here, same) (omega (arith, (grows j t).0, none), omega (arith, (grows j t).1, none)))
    (λ (other : k ≢ i) j t. front_grows (within left i k) (within left right k) (within low high j && segment_is t s) _ _ (within-less left i right k (omega (arith, below))) (so_far k j t))

-- cells without segments
all_empty : (n j : ℕ) → cell (replicate n []) j ≡ []
all_empty zero j = refl
all_empty (suc n) zero = refl
all_empty (suc n) (suc j) = all_empty n j

pub empty-cells : (m n i j : ℕ) → cell (column (replicate m (replicate n [])) i) j ≡ []
empty-cells zero n i j = refl
empty-cells (suc m) n zero j = all_empty n j
empty-cells (suc m) n (suc i) j = empty-cells m n i j
