-- What each element of a list gives with its number, one after another.
use Rattle.kit_words.proofs.Common.{◌≡◌, ◌<◌, ◌+◌, ℕ, zero, suc, refl, sym, ap, ◌∙◌, List, [], ◌∷◌, ◌++◌, length, take}
use Rattle.kit_words.proofs.Common.{get_or, arith, append_assoc, take_more}
use Rattle.std.proofs.Common.{append-nil}
use Rattle.walk_faults.specs.Common.{flat_map_at}
use Rattle.walk_faults.proofs.Walking.{each_at-append}

pub so_many : {X : Type 0} (xs : List X) (i : ℕ) → i < length xs → length (take i xs) ≡ i
so_many xs zero l = refl
so_many [] (suc i) l = absurd (omega arith)
so_many (x ∷ xs) (suc i) l = ap suc (so_many xs i (omega arith))

-- one element more
pub each_next : {X Y : Type 0} (f : ℕ → X → List Y) (xs : List X) (i : ℕ) (x : X) → i < length xs → x ≡ get_or xs i x
    → flat_map_at f 0 (take (i + 1) xs) ≡ flat_map_at f 0 (take i xs) ++ f i x
each_next f xs i x l e =
    let so_far = take i xs in
    let e' : 0 + length so_far ≡ i = omega (arith, so_many xs i l) in
    ap (flat_map_at f 0) (take_more xs i x l ∙ ap (λ z. take i xs ++ z ∷ []) (sym e))
    ∙ each_at-append f 0 so_far (x ∷ []) ∙ ap (λ n. flat_map_at f 0 so_far ++ (f n x ++ [])) e'
    ∙ ap (λ z. flat_map_at f 0 so_far ++ z) (append-nil (f i x))

-- what one element gives comes after those so far
pub one_more : {X Y : Type 0} (f : ℕ → X → List Y) (xs : List X) (i : ℕ) (x : X) (old before after : List Y) → i < length xs → x ≡ get_or xs i x
    → before ≡ old ++ flat_map_at f 0 (take i xs) → after ≡ before ++ f i x → after ≡ old ++ flat_map_at f 0 (take (i + 1) xs)
one_more f xs i x old before after l e so_far is =
    is ∙ ap (λ z. z ++ f i x) so_far ∙ append_assoc old (flat_map_at f 0 (take i xs)) (f i x) ∙ ap (λ z. old ++ z) (sym (each_next f xs i x l e))
