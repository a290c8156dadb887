-- Uses of arcs, and the edges of rings that they make.
use Rattle.std.specs.Prelude.{ℕ, ◌⊎◌, ◌≡◌, ◌≢◌, ◌+◌, ◌≤◌, Bool, true, false, ◌&&◌, ◌||◌, ◌==◌, if◌then◌else◌, List, [], ◌∷◌, ◌++◌, reverse}
use Rattle.std.specs.List.{flat_map, AllByRecursion}
use Rattle.arc_tables.specs.declared.arc.Use.{Use}

-- from one key to another
abbrev pub Edge : Type 0
Edge = ℕ × ℕ

-- the edges of an open way: each with the next one
abbrev pub links : {A : Type 0} → List A → List (A × A)
links [] = []
links (p ∷ []) = []
links (p ∷ q ∷ ps) = (p, q) ∷ links (q ∷ ps)

abbrev pub walk : Bool → List ℕ → List ℕ
walk back ps = if back then reverse ps else ps

-- the edges of uses, where path i is the keys of arc i
abbrev pub chain : (ℕ → List ℕ) → List Use → List Edge
chain path us = flat_map (λ u. links (walk u.back (path u.arc))) us

-- the edge is of the segment of a and b
abbrev pub is_seg : ℕ → ℕ → Edge → Bool
is_seg a b e = (e.0 == a && e.1 == b) || (e.0 == b && e.1 == a)

abbrev pub one : Bool → ℕ
one b = if b then 1 else 0

-- how often the segment stands among the edges
abbrev pub times : ℕ → ℕ → List Edge → ℕ
times a b [] = 0
times a b (e ∷ es) = one (is_seg a b e) + times a b es

-- no segment stands in two arcs, or in one twice
pub record Once (path : ℕ → List ℕ) : Type 0 where
  pub apart : (a b i j : ℕ) → 1 ≤ times a b (links (path i)) → 1 ≤ times a b (links (path j)) → i ≡ j
  pub single : (a b i : ℕ) → times a b (links (path i)) ≤ 1

-- arcs and rings under numbers; what is not there is empty
pub record Store : Type 0 where
  pub path : ℕ → List ℕ
  pub ring : ℕ → List Use

abbrev pub edges_of : Store → ℕ → List Edge
edges_of s r = chain s.path (s.ring r)

-- no ring changes, and no segment comes to stand twice
pub record Keeps (s t : Store) : Type 0 where
  pub same : (r : ℕ) → edges_of t r ≡ edges_of s r
  pub once : Once s.path → Once t.path

-- ring r goes on along es, and no other ring changes
pub record Grows (r : ℕ) (es : List Edge) (s t : Store) : Type 0 where
  pub others : (k : ℕ) → k ≢ r → edges_of t k ≡ edges_of s k
  pub grown : edges_of t r ≡ edges_of s r ++ es
  pub once : Once s.path → Once t.path

-- no use of the arc
abbrev pub Lacks : ℕ → List Use → Type 0
Lacks n us = AllByRecursion (λ u. u.arc ≢ n) us

-- ---- the moves

-- the uses of arc i are followed, in their direction, by those of arc n
abbrev pub both_parts : ℕ → ℕ → Use → List Use
both_parts i n u = if u.arc == i then (if u.back then (record { arc = n; back = true } ∷ record { arc = i; back = true } ∷ []) else (record { arc = i; back = false } ∷ record { arc = n; back = false } ∷ [])) else (u ∷ [])

-- arc i, which was us, m and vs, ends at m, and the new arc n goes on from there
pub record Cuts (i n : ℕ) (us : List ℕ) (m : ℕ) (vs : List ℕ) (s t : Store) : Type 0 where
  pub was : s.path i ≡ us ++ m ∷ vs
  pub apart : i ≢ n
  pub vacant : s.path n ≡ []
  pub unused : (r : ℕ) → Lacks n (s.ring r)
  pub first : t.path i ≡ us ++ m ∷ []
  pub second : t.path n ≡ m ∷ vs
  pub others : (j : ℕ) → j ≢ i → j ≢ n → t.path j ≡ s.path j
  pub rings : (r : ℕ) → t.ring r ≡ flat_map (both_parts i n) (s.ring r)

-- ring r goes on along the whole of arc i, or of its reverse
pub record Takes (r i : ℕ) (back : Bool) (s t : Store) : Type 0 where
  pub paths : (j : ℕ) → t.path j ≡ s.path j
  pub ring : t.ring r ≡ s.ring r ++ record { arc = i; back = back } ∷ []
  pub others : (k : ℕ) → k ≢ r → t.ring k ≡ s.ring k

-- ring r goes on along the new arc n from a to b
pub record Starts (r n a b : ℕ) (s t : Store) : Type 0 where
  pub vacant : s.path n ≡ []
  pub unused : (k : ℕ) → Lacks n (s.ring k)
  pub path : t.path n ≡ a ∷ b ∷ []
  pub other_paths : (j : ℕ) → j ≢ n → t.path j ≡ s.path j
  pub ring : t.ring r ≡ s.ring r ++ record { arc = n; back = false } ∷ []
  pub others : (k : ℕ) → k ≢ r → t.ring k ≡ s.ring k

-- arc n, the last of ring r and of no other, goes on from its end a to b
pub record Extends (r n : ℕ) (ps : List ℕ) (a b : ℕ) (before : List Use) (s t : Store) : Type 0 where
  pub was : s.path n ≡ ps ++ a ∷ []
  pub last : s.ring r ≡ before ++ record { arc = n; back = false } ∷ []
  pub only : Lacks n before
  pub unused : (k : ℕ) → k ≢ r → Lacks n (s.ring k)
  pub path : t.path n ≡ ps ++ a ∷ b ∷ []
  pub other_paths : (j : ℕ) → j ≢ n → t.path j ≡ s.path j
  pub rings : (k : ℕ) → t.ring k ≡ s.ring k

-- the segment stands in no arc
abbrev pub IsNew : ℕ → ℕ → (ℕ → List ℕ) → Type 0
IsNew a b path = (i : ℕ) → times a b (links (path i)) ≡ 0

-- ring r goes, and with it the arcs that no other ring has
pub record TakesOut (r : ℕ) (s t : Store) : Type 0 where
  pub ring : t.ring r ≡ []
  pub others : (k : ℕ) → k ≢ r → t.ring k ≡ s.ring k
  pub kept : (k : ℕ) → k ≢ r → AllByRecursion (λ u. t.path u.arc ≡ s.path u.arc) (s.ring k)
  pub gone : (j : ℕ) → (t.path j ≡ s.path j) ⊎ (t.path j ≡ [])

-- arc n, which ends at a, is the last of ring r, and has no other use
pub record OpenAt (s : Store) (r n a : ℕ) : Type 0 where
  pub ps : List ℕ
  pub before : List Use
  pub path : s.path n ≡ ps ++ a ∷ []
  pub last : s.ring r ≡ before ++ record { arc = n; back = false } ∷ []
  pub only : Lacks n before
  pub unused : (k : ℕ) → k ≢ r → Lacks n (s.ring k)

-- no ring changes but r
pub record Spoils (r : ℕ) (s t : Store) : Type 0 where
  pub others : (k : ℕ) → k ≢ r → edges_of t k ≡ edges_of s k
  pub once : Once s.path → Once t.path
