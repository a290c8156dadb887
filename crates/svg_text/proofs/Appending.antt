-- Pieces that are appended one after another.
use mir.Syntax.{w64}
use mir.Val.{SFits, of_z, to_z}
use Rattle.kit_words.proofs.Common.{◌≡◌, ℕ, List, ◌++◌, ap, ap₂, ◌∙◌, append_assoc, ℤ, appended_two, appended_three}
use Rattle.kit_words.proofs.Common.{appended_four}
use Rattle.std.proofs.Math.Facts.{to_z-of_z}

-- a number that was passed is the number
pub whole : (f : ℤ → List ℕ) (t u : List ℕ) (x : ℤ) → SFits w64 x → u ≡ t ++ f (to_z w64 (of_z w64 x)) → u ≡ t ++ f x
whole f t u x fits e = e ∙ ap (λ (z : ℤ). t ++ f z) (to_z-of_z fits)

pub both_whole : (f : ℤ → ℤ → List ℕ) (t u : List ℕ) (x y : ℤ) → SFits w64 x → SFits w64 y
    → u ≡ t ++ f (to_z w64 (of_z w64 x)) (to_z w64 (of_z w64 y)) → u ≡ t ++ f x y
both_whole f t u x y across up e = e ∙ ap₂ (λ (a b : ℤ). t ++ f a b) (to_z-of_z across) (to_z-of_z up)
