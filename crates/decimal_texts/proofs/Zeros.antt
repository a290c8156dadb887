-- Zeros after a number.
use Rattle.kit_words.proofs.Common.{◌≡◌, ℕ, zero, suc, ◌+◌, ◌-◌, ◌*◌, ◌^◌, ◌≤◌, ◌%◌, ◌/◌, refl, sym, ap, ◌∙◌}
use Rattle.kit_words.proofs.Common.{arith, sub-one, add-one, mod-mul, pow-suc, ne_eqb, cond-true, cond-false}
use Rattle.decimal_texts.proofs.Powers.{power_pos}
use Rattle.std.proofs.lemmas.Bool.{eq-eqb}
use Rattle.decimal_texts.specs.Common.{zeros_behind}

pub zeros_step : (k n : ℕ) → 1 ≤ k → n % 10 ≡ 0 → zeros_behind k n ≡ zeros_behind (k - 1) (n / 10) + 1
unfolding zeros_behind
zeros_step zero n h e = absurd (omega arith)
zeros_step (suc k) n h e = rw (sub-one, add-one) (cond-true _ _ _ (eq-eqb (n % 10) 0 e))

pub zeros_none : (k n : ℕ) → (n % 10 ≡ 0 → ⊥) → zeros_behind k n ≡ 0
unfolding zeros_behind
zeros_none zero n h = refl
zeros_none (suc k) n h = cond-false _ _ _ (ne_eqb (n % 10) 0 h)

-- a number that so many tens divide has as many zeros after it
pub zeros_all : (k n : ℕ) → n % (10 ^ k) ≡ 0 → zeros_behind k n ≡ k
unfolding zeros_behind
zeros_all zero n h = refl
zeros_all (suc k) n h =
    let parts : (n / 10 % (10 ^ k)) * 10 + n % 10 ≡ 0 =
    sym (mod-mul n (power_pos k) (omega arith)) ∙ ap (λ (m : ℕ). n % m) (sym (pow-suc 10 k)) ∙ h in
    cond-true _ _ _ (eq-eqb (n % 10) 0 (omega (arith, parts))) ∙ ap suc (zeros_all k (n / 10) (omega (arith, parts)))
