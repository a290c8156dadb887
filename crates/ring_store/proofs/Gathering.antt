-- Numbers that come after a list, each once.
use Rattle.kit_words.proofs.Common.{◌≡◌, ℕ, ◌≤◌, refl, ap, ap₂, ◌∙◌, subst, arith, List, [], ◌∷◌, ◌++◌, take, drop}
use Rattle.kit_words.proofs.Common.{length, Contains, ◌⊎◌, inl, inr, length-take-le, take-append_seam, drop-append_seam}
use Rattle.kit_words.proofs.Common.{drop-length, take-length}
use Rattle.slab.proofs.SlabLemmas.{Contains-cons, Contains-cons_cases}
use Rattle.arc_tables.specs.Common.{including, AllDifferent}
use Rattle.ring_store.specs.Common.{including_all, gathered}
use Rattle.arc_tables.proofs.Common.{none_contained, different_including, in_including, itself_including}
use Rattle.arc_tables.proofs.Common.{from_including}

-- ---- a list with more numbers

including_all-append : (xs ys zs : List ℕ) → including_all (including_all xs ys) zs ≡ including_all xs (ys ++ zs)
including_all-append xs [] zs = refl
including_all-append xs (y ∷ ys) zs = including_all-append (including y xs) ys zs

in_including_all : (xs ys : List ℕ) (k : ℕ) → Contains xs k → Contains (including_all xs ys) k
in_including_all xs [] k m = m
in_including_all xs (y ∷ ys) k m = in_including_all (including y xs) ys k (in_including y xs k m)

pub themselves_including : (xs ys : List ℕ) (k : ℕ) → Contains ys k → Contains (including_all xs ys) k
themselves_including xs [] k m = absurd (none_contained k [] refl m)
themselves_including xs (y ∷ ys) k m = elim (Contains-cons_cases y k ys m) [
  | inl e ↦ in_including_all (including y xs) ys k (subst (Contains (including y xs)) e (itself_including y xs))
  | inr z ↦ themselves_including (including y xs) ys k z
]

from_including_all : (xs ys : List ℕ) (k : ℕ) → Contains (including_all xs ys) k → Contains xs k ⊎ Contains ys k
from_including_all xs [] k m = inl m
from_including_all xs (y ∷ ys) k m = elim (from_including_all (including y xs) ys k m) [
  | inl z ↦ elim (from_including y xs k z) [ inl w ↦ inl w | inr e ↦ inr (0, omega arith, e) ]
  | inr z ↦ inr (Contains-cons y k ys z)
]

-- from nothing, no other comes in
pub only_including : (ys : List ℕ) (k : ℕ) → Contains (including_all [] ys) k → Contains ys k
only_including ys k m = elim (from_including_all [] ys k m) [ inl z ↦ absurd (none_contained k [] refl z) | inr z ↦ z ]

pub different_including_all : (xs ys : List ℕ) → AllDifferent xs → AllDifferent (including_all xs ys)
different_including_all xs [] d = d
different_including_all xs (y ∷ ys) d = different_including_all (including y xs) ys (different_including y xs d)

-- ---- behind the first so many

-- some, and then more
pub gathered-append : (from : ℕ) (xs ys zs : List ℕ) → from ≤ length xs → gathered from (gathered from xs ys) zs ≡ gathered from xs (ys ++ zs)
gathered-append from xs ys zs l = ap₂ (λ a b. a ++ including_all b zs) first rest ∙ ap (λ b. take from xs ++ b) (including_all-append (drop from xs) ys zs)
  where
    len : length (take from xs) ≡ from
    len = length-take-le from xs l

    first : take from (gathered from xs ys) ≡ take from xs
    first = subst (λ n. take n (gathered from xs ys) ≡ take from xs) len (take-append_seam (take from xs) (including_all (drop from xs) ys))

    rest : drop from (gathered from xs ys) ≡ including_all (drop from xs) ys
    rest = subst (λ n. drop n (gathered from xs ys) ≡ including_all (drop from xs) ys) len (drop-append_seam (take from xs) (including_all (drop from xs) ys))

-- after the whole list
pub gathered_behind : (xs ys : List ℕ) → gathered (length xs) xs ys ≡ xs ++ including_all [] ys
gathered_behind xs ys = ap₂ (λ a b. a ++ including_all b ys) (take-length xs) (drop-length xs)
