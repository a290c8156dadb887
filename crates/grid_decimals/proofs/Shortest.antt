-- Zeros behind a number are left out, step by step.
use Rattle.kit_words.proofs.Common.{◌≡◌, ℕ, zero, suc, ◌-◌, ◌/◌, ◌%◌, ◌≤◌, refl, arith, sub-one, eq-eqb, ne_eqb, cond-true}
use Rattle.kit_words.proofs.Common.{cond-false}
use Rattle.grid_decimals.specs.Common.{shortest}

pub shortest_step : (k n : ℕ) → 1 ≤ k → n % 10 ≡ 0 → shortest k n ≡ shortest (k - 1) (n / 10)
unfolding shortest
shortest_step zero n h e = absurd (omega arith)
shortest_step (suc k) n h e = rw sub-one (cond-true _ _ _ (eq-eqb (n % 10) 0 e))

pub shortest_stop : (k n : ℕ) → (n % 10 ≡ 0 → ⊥) → shortest k n ≡ (k, n)
unfolding shortest
shortest_stop zero n h = refl
shortest_stop (suc k) n h = cond-false _ _ _ (ne_eqb (n % 10) 0 h)

pub shortest_none : (n : ℕ) → shortest 0 n ≡ (0, n)
unfolding shortest
shortest_none n = refl
