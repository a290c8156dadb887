-- What the arcs of a vertex tell: the other ends of its segments, and which of them were seen.
use Rattle.std.specs.Prelude.{ℕ, ◌≡◌, ◌==◌, ◌||◌, if◌then◌else◌, List, [], ◌∷◌, ◌++◌, get_or}
use Rattle.std.specs.List.{flat_map}
use Rattle.ring_store.specs.declared.neighbours.Neighbours.{Neighbours}
use Rattle.ring_store.specs.declared.neighbours.Neighbours.TheVariants.{None, One, Two, More}
use Rattle.arc_tables.specs.declared.arc.Arc.{Arc}
use Rattle.arc_tables.specs.Common.{Edge, links}

-- the neighbours, where x is one too
abbrev pub noted : Neighbours → ℕ → Neighbours
noted None x = One x
noted (One a) x = if a == x then One a else Two a x
noted (Two a b) x = if a == x || b == x then Two a b else More
noted More x = More

-- the neighbours, where these are some too
abbrev pub noted_all : Neighbours → List ℕ → Neighbours
noted_all seen [] = seen
noted_all seen (x ∷ xs) = noted_all (noted seen x) xs

-- x, where a is k
abbrev pub ending : ℕ → ℕ → ℕ → List ℕ
ending a x k = if a == k then x ∷ [] else []

-- the other end of an edge, where one end is k
abbrev pub other_end : ℕ → Edge → List ℕ
other_end k e = ending e.0 e.1 k ++ ending e.1 e.0 k

-- the other ends of the edges at k
abbrev pub other_ends : ℕ → List Edge → List ℕ
other_ends k es = flat_map (other_end k) es

-- the other ends of the segments at k in these arcs
abbrev pub ends_among : (ℕ → List ℕ) → List ℕ → ℕ → List ℕ
ends_among path among k = flat_map (λ i. other_ends k (links (path i))) among

-- the other ends of the segments at k in the arcs of these entries
abbrev pub ends_in : {A : Type 0} → List (ℕ × Arc A) → ℕ → List ℕ
ends_in es k = flat_map (λ e. other_ends k (links e.1.keys.items)) es

-- by the table these are seen too, at each vertex
abbrev pub SeesMore : List Neighbours → List Neighbours → (ℕ → List ℕ) → Type 0
SeesMore old new ends = (k : ℕ) → get_or new k None ≡ noted_all (get_or old k None) (ends k)
