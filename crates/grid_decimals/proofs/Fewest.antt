-- As few decimals as keep units within a length, step by step.
use Rattle.kit_words.proofs.Common.{◌≡◌, ℕ, zero, suc, ◌-◌, ◌*◌, ◌<◌, ◌≤◌, refl, arith, sub-one, cond-true, cond-false, le-leb, lt-leb}
use Rattle.grid_decimals.specs.Common.{fewest}

pub fewest_step : (d units length : ℕ) → 1 ≤ d → units * 10 ≤ length → fewest d units length ≡ fewest (d - 1) (units * 10) length
unfolding fewest
fewest_step zero units length h le = absurd (omega arith)
fewest_step (suc d) units length h le = rw sub-one (cond-true _ _ _ (le-leb (units * 10) length le))

pub fewest_stop : (d units length : ℕ) → length < units * 10 → fewest d units length ≡ d
unfolding fewest
fewest_stop zero units length lt = refl
fewest_stop (suc d) units length lt = cond-false _ _ _ (lt-leb (units * 10) length lt)

pub fewest_none : (units length : ℕ) → fewest 0 units length ≡ 0
unfolding fewest
fewest_none units length = refl
