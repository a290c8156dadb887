-- One element more of lists that are mapped.
use Rattle.kit_words.proofs.Common.{◌≡◌, ℕ, ◌+◌, ◌<◌, List, [], ◌∷◌, ◌++◌, length, take, get_or, ap, ◌∙◌, flat_map}
use Rattle.kit_words.proofs.Common.{take_more, append-nil, flat_map-append}

pub flat_more : {A C : Type 0} (f : A → List C) (xs : List A) (i : ℕ) (d : A) → i < length xs
    → flat_map f (take (i + 1) xs) ≡ flat_map f (take i xs) ++ f (get_or xs i d)
flat_more f xs i d l =
    ap (flat_map f) (take_more xs i d l) ∙ flat_map-append f (take i xs) (get_or xs i d ∷ [])
    ∙ ap (λ z. flat_map f (take i xs) ++ z) (append-nil (f (get_or xs i d)))
