-- The lists of the rings that have a segment, and of those that have one of a ring's.
use Rattle.std.specs.Prelude.{ℕ, ◌≡◌, ◌↔◌, true, Some, Option, List, [], ◌∷◌, ◌++◌, Contains}
use Rattle.std.specs.FinMap as rings
use Rattle.arc_tables.specs.declared.arc.Arc.{Arc}
use Rattle.arc_tables.specs.Ways.{Edge}
use Rattle.arc_tables.specs.Rings.{Rings, has_segment}
use Rattle.arc_tables.specs.Stores.{AllDifferent, path_in, users_in}

-- the ring with this number is held, and has the segment of a and b, in either direction
pub record HasSegment (m : Rings) (a b r : ℕ) : Type 0 where
  pub edges : List Edge
  pub held : rings.get m r ≡ Some edges
  pub has : has_segment a b edges ≡ true

-- what was appended are the numbers of the rings that have the segment of a and b, each once
pub record ListsUsers (m : Rings) (a b : ℕ) (old new : List ℕ) : Type 0 where
  pub found : List ℕ
  pub appended : new ≡ old ++ found
  pub all : (r : ℕ) → Contains found r ↔ HasSegment m a b r
  pub once : AllDifferent found

-- the two rings have a segment in common
pub record HaveCommon (m : Rings) (r x : ℕ) : Type 0 where
  pub a : ℕ
  pub b : ℕ
  pub one : HasSegment m a b r
  pub other : HasSegment m a b x

-- what was appended are the numbers of the rings that have a segment in common with ring r, and
-- no others
pub record ListsSharing (m : Rings) (r : ℕ) (old new : List ℕ) : Type 0 where
  pub found : List ℕ
  pub appended : new ≡ old ++ found
  pub all : (x : ℕ) → Contains found x ↔ HaveCommon m r x

-- these, where the path has a segment
abbrev pub where_some : List ℕ → List ℕ → List ℕ
where_some [] users = []
where_some (p ∷ []) users = []
where_some (p ∷ q ∷ path) users = users

-- the rings of an arc, where it has a segment
abbrev pub sharers_in : {A : Type 0} → Option (Arc A) → List ℕ
sharers_in o = where_some (path_in o) (users_in o)
