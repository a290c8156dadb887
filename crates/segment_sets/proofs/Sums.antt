-- Sums over the cells of a cover.
use Rattle.kit_words.proofs.Common.{◌≡◌, ◌≤◌, ◌<◌, ◌+◌, ◌-◌, ℕ, zero, suc, true, ◌&&◌, refl, arith}
use Rattle.segment_sets.specs.Common.{Cover, within, has_cell, counted, total}
use Rattle.segment_sets.proofs.Steps.{by_is}

pub counted-mono : (f g : ℕ → ℕ) (low n : ℕ) → ((k : ℕ) → f k ≤ g k) → counted f low n ≤ counted g low n
counted-mono f g low zero h = omega arith
counted-mono f g low (suc n) h = omega (arith, h (low + n), counted-mono f g low n h)

pub counted-zero : (f : ℕ → ℕ) (low n : ℕ) → ((k : ℕ) → f k ≡ 0) → counted f low n ≡ 0
counted-zero f low zero h = refl
counted-zero f low (suc n) h = omega (arith, h (low + n), counted-zero f low n h)

counted-one : (f : ℕ → ℕ) (low n k : ℕ) → low ≤ k → k < low + n → f k ≤ counted f low n
counted-one f low zero k h l = absurd (omega (arith, h, l))
counted-one f low (suc n) k h l = by_is k (low + n) (λ e. rw e (omega arith)) (λ o. omega (arith, counted-one f low n k h (omega (arith, l, o))))

-- sums over the cells of a cover
pub total-mono : (f g : ℕ → ℕ → ℕ) (c : Cover) → ((i j : ℕ) → f i j ≤ g i j) → total f c ≤ total g c
total-mono f g c h = counted-mono _ _ c.left (c.right - c.left) (λ i. counted-mono (f i) (g i) c.low (c.high - c.low) (h i))

pub total-zero : (f : ℕ → ℕ → ℕ) (c : Cover) → ((i j : ℕ) → f i j ≡ 0) → total f c ≡ 0
total-zero f c h = counted-zero _ c.left (c.right - c.left) (λ i. counted-zero (f i) c.low (c.high - c.low) (h i))

pub total-one : (f : ℕ → ℕ → ℕ) (c : Cover) (i j : ℕ) → has_cell c i j ≡ true → f i j ≤ total f c
total-one f c i j h =
    let p = in_range c.left c.right i c.low c.high j h in
    let inner : f i j ≤ counted (f i) c.low (c.high - c.low) = counted-one (f i) c.low (c.high - c.low) j p.2 (omega (arith, p.2, p.3)) in
    let outer : counted (f i) c.low (c.high - c.low) ≤ total f c = counted-one (λ k. counted (f k) c.low (c.high - c.low)) c.left (c.right - c.left) i p.0 (omega (arith, p.0, p.1)) in
    omega (arith, inner, outer)
  where
    in_range : (a b i c d j : ℕ) → (within a b i && within c d j) ≡ true → (a ≤ i) × (i < b) × (c ≤ j) × (j < d)
    in_range a b i c d j h = (grind arith, grind arith, grind arith, grind arith)
