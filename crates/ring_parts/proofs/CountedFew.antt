-- Positions counted ring by ring, and polygon by polygon.
use Rattle.kit_words.proofs.Common.{◌≡◌, ◌≤◌, ◌<◌, ℕ, ◌+◌, refl, ap, ◌∙◌, List, [], ◌∷◌, map, length, take, get_or}
use Rattle.kit_words.proofs.Common.{arith, flat_map, sum_by, take-map, sum_by-append, sum_by-cons, sum_by_push}
use Rattle.kit_words.proofs.Common.{sum_by-take-le, mapped_more}

module _ {A B : Type 0} (of : A → B) (f : B → ℕ) (xs : List A) (i : ℕ) (x : A) (l : i < length xs) (e : x ≡ get_or xs i x) where
  -- one more is counted
  pub counted_more : sum_by f (map of (take (i + 1) xs)) ≡ sum_by f (map of (take i xs)) + f (of x)
  counted_more = ap (sum_by f) (mapped_more of xs i x l e) ∙ sum_by_push f (map of (take i xs)) (of x)

  -- and still no more than there are
  pub counted_few : sum_by f (map of (take i xs)) + f (of x) ≤ sum_by f (map of xs)
  counted_few = omega (
    arith,
    counted_more,
    ap (sum_by f) (take-map of (i + 1) xs),
    sum_by-take-le f (map of xs) (i + 1),
  )

-- polygon by polygon, or ring by ring
pub counted_flat : {A : Type 0} (f : A → ℕ) (xss : List (List A))
    → sum_by (sum_by f) xss ≡ sum_by f (flat_map (λ xs. xs) xss)
counted_flat f [] = refl
counted_flat f (xs ∷ xss) =
    omega (arith, sum_by-cons (sum_by f) xs xss, sum_by-append f xs (flat_map (λ ys. ys) xss), counted_flat f xss)
