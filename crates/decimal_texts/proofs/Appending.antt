-- Pieces that are appended one after another.
use Rattle.kit_words.proofs.Common.{◌≡◌, ℕ, List, ◌++◌, ap, ◌∙◌, Result, Ok, Err, is_ok, if◌then◌else◌}
use Rattle.kit_words.proofs.Common.{OnOk, appended_two}

-- what is appended where there is memory
pub last : {A E : Type 0} (r : Result A E) (old a b new : List ℕ) → new ≡ (if is_ok r then old ++ a else old) → a ≡ b → OnOk r (new ≡ old ++ b)
last (Ok x) old a b new h e = h ∙ ap (λ z. old ++ z) e
last (Err x) old a b new h e = tt

pub last_of_two : {A E : Type 0} (r : Result A E) (old a b c mid new : List ℕ) → mid ≡ old ++ a → new ≡ (if is_ok r then mid ++ b else mid) → a ++ b ≡ c → OnOk r (new ≡ old ++ c)
last_of_two (Ok x) old a b c mid new e h f = appended_two old a b mid new e h ∙ ap (λ z. old ++ z) f
last_of_two (Err x) old a b c mid new e h f = tt
