-- The list of the vertices that are joined to one.
use Rattle.std.specs.Prelude.{ℕ, ◌≡◌, ◌↔◌, List, [], ◌∷◌, ◌++◌, take, drop, Contains}
use Rattle.arc_tables.specs.Common.{Rings, AllDifferent, including}
use Rattle.ring_store.specs.Joined.{Joined}

-- the list with these numbers, each of which comes last where it is new
abbrev pub including_all : List ℕ → List ℕ → List ℕ
including_all xs [] = xs
including_all xs (y ∷ ys) = including_all (including y xs) ys

-- the list with these numbers too, each that does not stand after the first so many
abbrev pub gathered : ℕ → List ℕ → List ℕ → List ℕ
gathered from xs ys = take from xs ++ including_all (drop from xs) ys

-- what was appended are the vertices that are joined to k, each once
pub record ListsJoined (m : Rings) (k : ℕ) (old new : List ℕ) : Type 0 where
  pub found : List ℕ
  pub appended : new ≡ old ++ found
  pub all : (x : ℕ) → Contains found x ↔ Joined m k x
  pub once : AllDifferent found
