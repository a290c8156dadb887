-- A number in units of its last decimal: what the code computes, and how large it is.
use mir.Syntax.{w128}
use mir.Val.{of_z, to_z}
use Rattle.kit_words.proofs.Common.{◌≡◌, ℕ, zero, suc, ◌*◌, ◌<◌, ◌≤◌, ◌^◌, Bool, true, false, refl, ap, ap₂, subst, sym, ◌∙◌}
use Rattle.kit_words.proofs.Common.{List, ◌++◌, length, ◌==◌, if◌then◌else◌, arith, ℤ, pos, negsuc, ◌+ℤ◌, ◌-ℤ◌, unsigned_abs, ints}
use Rattle.json_spans.specs.Common.{value_from}
use Rattle.json_spans.proofs.Decimal.{grows}
use Rattle.decimal_texts.specs.Common.{Parts}
use Rattle.grid_decimals.specs.Common.{at_least_zero, power_of, size_of, units_of, with_sign, without_zeros_behind}
use Rattle.grid_decimals.proofs.Trimming.{kept_power, kept_size}

-- ---- read digits

pub first_large : (xs ys us vs : List ℕ) → vs ≡ without_zeros_behind ys
    → us ≡ (if length vs == 0 then without_zeros_behind xs else xs) → 10 ^ 37 < value_from 0 us
    → 10 ^ 37 < value_from 0 (without_zeros_behind (xs ++ ys))
first_large xs ys us vs e f h = omega (arith, h, kept_size xs ys us vs e f, grows (value_from 0 us) vs)

pub both_large : (xs ys us vs : List ℕ) (n : ℕ) → vs ≡ without_zeros_behind ys
    → us ≡ (if length vs == 0 then without_zeros_behind xs else xs) → n ≡ value_from 0 us → 10 ^ 37 < value_from n vs
    → 10 ^ 37 < value_from 0 (without_zeros_behind (xs ++ ys))
both_large xs ys us vs n e f g h =
    subst (λ m. 10 ^ 37 < m) (ap (λ m. value_from m vs) g ∙ sym (kept_size xs ys us vs e f)) h

sum_is : (z : ℤ) (m k n : ℕ) → unsigned_abs z < 1000 → m < 2 ^ 64 → k ≤ m → n < 2 ^ 64
    → to_z w128 (of_z w128 (to_z w128 (of_z w128 (to_z w128 (of_z w128 z) +ℤ to_z w128 (of_z w128 (to_z w128 m -ℤ to_z w128 k)))) -ℤ to_z w128 n))
    ≡ (z +ℤ (pos m -ℤ pos k)) -ℤ pos n
sum_is (pos a) m k n h f g i = omega (arith, ints)
sum_is (negsuc a) m k n h f g i = omega (arith, ints)

-- the power of ten, which no width cuts off
pub power_is : (z r : ℤ) (xs ys us vs : List ℕ) → r ≡ z → unsigned_abs z < 1000 → length xs < 2 ^ 64
    → length us ≤ length xs → length vs < 2 ^ 64 → vs ≡ without_zeros_behind ys
    → us ≡ (if length vs == 0 then without_zeros_behind xs else xs)
    → to_z w128 (of_z w128 (to_z w128 (of_z w128 (to_z w128 (of_z w128 r) +ℤ to_z w128 (of_z w128 (to_z w128 (length xs) -ℤ to_z w128 (length us))))) -ℤ to_z w128 (length vs)))
    ≡ (z +ℤ pos (length xs)) -ℤ pos (length (without_zeros_behind (xs ++ ys)))
power_is z r xs ys us vs q h lx lu lv e f =
    ap (λ y. to_z w128 (of_z w128 (to_z w128 (of_z w128 (to_z w128 (of_z w128 y) +ℤ to_z w128 (of_z w128 (to_z w128 (length xs) -ℤ to_z w128 (length us))))) -ℤ to_z w128 (length vs)))) q
    ∙ (sum_is z (length xs) (length us) (length vs) h lx lu lv ∙ kept_power z xs ys us vs e f)

-- ---- a size and a sign

pub size_signed : (is_negative : Bool) (n : ℕ) → unsigned_abs (with_sign is_negative n) ≡ n
size_signed true zero = refl
size_signed true (suc n) = refl
size_signed false n = refl

pub units_size : (d : ℕ) (p : Parts) → unsigned_abs (units_of d p) ≡ size_of p * 10 ^ at_least_zero (pos d +ℤ power_of p)
units_size d p = size_signed p.is_negative (size_of p * 10 ^ at_least_zero (pos d +ℤ power_of p))

pub units_large : (d size k : ℕ) (p : Parts) → size ≡ size_of p → k ≡ at_least_zero (pos d +ℤ power_of p)
    → 10 ^ 37 < size * 10 ^ k → 10 ^ 37 < unsigned_abs (units_of d p)
units_large d size k p e f h = subst (λ n. 10 ^ 37 < n) (ap₂ (λ a b. a * 10 ^ b) e f ∙ sym (units_size d p)) h
