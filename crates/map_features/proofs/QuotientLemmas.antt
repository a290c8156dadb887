-- Quotients of whole numbers.
use mir.Syntax.{w64}
use mir.Val.{to_z, of_z}
use Rattle.kit_words.proofs.Common.{◌≡◌, ℕ, ℤ, pos, negsuc, ◌≤◌, ◌≤ℤ◌, ◌<ℤ◌, ◌/◌, suc, neg_ℤ, refl, sym, ap, ◌∙◌}
use Rattle.kit_words.proofs.Common.{subst, arith, unsigned_abs, int_div, FitsSigned, div-le_self, zero, ints}
use Rattle.kit_words.proofs.Common.{quot_is, quot_fits}

abs_neg : (n : ℕ) → unsigned_abs (neg_ℤ (pos n)) ≡ n
abs_neg zero = refl
abs_neg (suc n) = refl

-- how large a quotient by a positive number is, and on which side of 0
size_of : (a d : ℤ) → pos 1 ≤ℤ d → unsigned_abs (int_div a d) ≡ unsigned_abs a / unsigned_abs d
size_of (pos a) (pos d) h = refl
size_of (negsuc a) (pos d) h = abs_neg (suc a / d)
size_of a (negsuc d) h = absurd (omega (arith, ints, h))

sign_of : (a d : ℤ) → pos 1 ≤ℤ d → pos 0 ≤ℤ a → pos 0 ≤ℤ int_div a d
sign_of (pos a) (pos d) h up = omega (arith, ints)
sign_of (negsuc a) (pos d) h up = absurd (omega (arith, ints, up))
sign_of a (negsuc d) h up = absurd (omega (arith, ints, h))

-- the code's quotient is that
quotient_is : (a d : ℤ) → FitsSigned w64 a → FitsSigned w64 d → pos 1 ≤ℤ d
    → to_z w64 (of_z w64 (int_div (to_z w64 (of_z w64 a)) (to_z w64 (of_z w64 d)))) ≡ int_div a d
quotient_is a d f g h =
    let up : pos 0 <ℤ d = omega (arith, ints, h) in
    quot_is w64 a d f g (quot_fits w64 a d f up)

pub quotient_size : (a d : ℤ) → FitsSigned w64 a → FitsSigned w64 d → pos 1 ≤ℤ d
    → unsigned_abs (to_z w64 (of_z w64 (int_div (to_z w64 (of_z w64 a)) (to_z w64 (of_z w64 d))))) ≡ unsigned_abs a / unsigned_abs d
quotient_size a d f g h = ap unsigned_abs (quotient_is a d f g h) ∙ size_of a d h

pub quotient_small : (a d : ℤ) → FitsSigned w64 a → FitsSigned w64 d → pos 1 ≤ℤ d
    → unsigned_abs (to_z w64 (of_z w64 (int_div (to_z w64 (of_z w64 a)) (to_z w64 (of_z w64 d))))) ≤ unsigned_abs a
quotient_small a d f g h = omega (arith, quotient_size a d f g h, div-le_self (unsigned_abs a) (unsigned_abs d))

pub quotient_sign : (a d : ℤ) → FitsSigned w64 a → FitsSigned w64 d → pos 1 ≤ℤ d → pos 0 ≤ℤ a
    → pos 0 ≤ℤ to_z w64 (of_z w64 (int_div (to_z w64 (of_z w64 a)) (to_z w64 (of_z w64 d))))
quotient_sign a d f g h up = subst (λ (z : ℤ). pos 0 ≤ℤ z) (sym (quotient_is a d f g h)) (sign_of a d h up)
