-- Lists with one element more.
use Rattle.kit_words.proofs.Common.{◌≡◌, ◌<◌, ℕ, ◌+◌, sym, ap, ◌∙◌, List, [], ◌∷◌, ◌++◌, map, length, take, get_or}
use Rattle.kit_words.proofs.Common.{Contains, arith, length-map, map_push, get_or-map, take_more}

-- ---- one more that is taken

pub taken : {X : Type 0} (xs : List X) (i : ℕ) (x : X) → i < length xs → x ≡ get_or xs i x
    → take (i + 1) xs ≡ take i xs ++ x ∷ []
taken xs i x l e = take_more xs i x l ∙ ap (λ y. take i xs ++ y ∷ []) (sym e)

-- what is mapped stands among all that are mapped
pub at_contains : {X Y : Type 0} (f : X → Y) (xs : List X) (i : ℕ) (x : X) (y : Y) → i < length xs
    → x ≡ get_or xs i x → y ≡ f x → Contains (map f xs) y
at_contains f xs i x y l e h =
    (i, omega (arith, l, length-map xs f), get_or-map f xs i x y l ∙ ap f (sym e) ∙ sym h)

-- ---- one more that was pushed

pub map_pushed : {X Y : Type 0} (g : X → Y) (xs ys : List X) (x : X)
    → ys ≡ xs ++ x ∷ [] → map g ys ≡ map g xs ++ g x ∷ []
map_pushed g xs ys x e = ap (map g) e ∙ map_push g xs x
