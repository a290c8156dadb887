-- What an edit of one vertex makes of a ring's edges.
use Rattle.std.specs.Prelude.{ℕ, ◌+◌, ◌==◌, ◌≡◌, ◌≢◌, ◌⊎◌, if◌then◌else◌, List, [], ◌∷◌, map, count_by, Contains}
use Rattle.std.specs.List.{flat_map, AllByRecursion}
use Rattle.arc_tables.specs.declared.batch.Put.{Put}
use Rattle.arc_tables.specs.Rings.{has_segment}
use Rattle.arc_tables.specs.Ways.{Edge, is_seg, links, times}

-- three different vertices
abbrev pub AreApart : ℕ → ℕ → ℕ → Type 0
AreApart a b c = (a ≢ b) × (a ≢ c) × (b ≢ c)

-- an edge of a and b leads over q, in its direction, and any other stays
abbrev pub over : ℕ → ℕ → ℕ → Edge → List Edge
over a b q e = if is_seg a b e then ((e.0, q) ∷ (q, e.1) ∷ []) else (e ∷ [])

-- the ring leads over q wherever it went between a and b
abbrev pub through : ℕ → ℕ → ℕ → List Edge → List Edge
through a b q es = flat_map (over a b q) es

-- b in place of p
abbrev pub onto : ℕ → ℕ → ℕ → ℕ
onto p b k = if k == p then b else k

-- an edge of p and b goes, and on any other p moves onto b
abbrev pub drawn : ℕ → ℕ → Edge → List Edge
drawn p b e = if is_seg p b e then [] else ((onto p b e.0, onto p b e.1) ∷ [])

-- p moves onto its neighbour b, and the edges between them go
abbrev pub collapsed : ℕ → ℕ → List Edge → List Edge
collapsed p b es = flat_map (drawn p b) es

-- p moved onto b in a path, and the edges between them went
pub record Collapses (p b : ℕ) (old new : List ℕ) : Type 0 where
  pub edges : links new ≡ collapsed p b (links old)
  pub keys : (k : ℕ) → Contains new k → (k ≢ p) × (Contains old k ⊎ (k ≡ b))

-- it did in the path of arc j, where that is among these, and any other path stayed
abbrev pub CollapsesAmong : List ℕ → ℕ → ℕ → ℕ → List ℕ → List ℕ → Type 0
CollapsesAmong among j p b old new = (Contains among j × Collapses p b old new) ⊎ ((new ≡ old) × ¬ (Contains among j))

-- ---- many vertices, one after the other

-- no edge ends at q
abbrev pub IsOff : ℕ → List Edge → Type 0
IsOff q es = (x : ℕ) → times q x es ≡ 0

-- the ring after these puts, of which the first comes first
abbrev pub throughs : List Put → List Edge → List Edge
throughs [] es = es
throughs (p ∷ ps) es = throughs ps (through p.a p.b p.q es)

-- how many positions these rings gain by the puts: one by each put for each ring that has its
-- segment by then
abbrev pub gained : List Put → List (List Edge) → ℕ
gained [] rs = 0
gained (p ∷ ps) rs =
    count_by (has_segment p.a p.b) rs + gained ps (map (through p.a p.b p.q) rs)

-- each put has a new vertex of its own, which is to come between two others
abbrev pub ArePuts : (ℕ → Type 0) → List Put → Type 0
ArePuts IsNew [] = Unit {0}
ArePuts IsNew (p ∷ ps) = AreApart p.a p.b p.q × IsNew p.q × AllByRecursion (λ other. other.q ≢ p.q) ps × ArePuts IsNew ps

-- the ring before these puts, of which the last goes first
abbrev pub taken_back : List Put → List Edge → List Edge
taken_back [] es = es
taken_back (p ∷ ps) es = collapsed p.q p.b (taken_back ps es)

-- these puts were the last edits of the paths
pub record WerePut (puts : List Put) (path : ℕ → List ℕ) : Type 0 where
  pub before : ℕ → List Edge
  pub fits : ArePuts (λ q. (i : ℕ) → IsOff q (before i)) puts
  pub put : (i : ℕ) → links (path i) ≡ throughs puts (before i)
