-- The rings of a map, by their edges.
use Rattle.std.specs.Prelude.{ℕ, Bool, List, ◌++◌, map, take, count_by}
use Rattle.std.specs.List.{list_any}
use Rattle.std.specs.Ordering.{nat_cmp}
use Rattle.std.specs.Coded.{Coded, coded×, coded_ℕ, coded_list}
use Rattle.std.specs.FinMap as rings
use Rattle.arc_tables.specs.Ways.{Edge, links, is_seg}

-- the edges of each ring, by the ring's number
abbrev pub Rings : Type 0
Rings = rings.FinMap nat_cmp (List Edge)

-- edges are stored as pairs
abbrev pub edges_code : Coded (List Edge)
edges_code = coded_list (coded× coded_ℕ coded_ℕ)

-- the edges of the ring that goes along these keys, and from the last to the first
abbrev pub edges : List ℕ → List Edge
edges keys = links (keys ++ take 1 keys)

-- the keys at which edges begin: for those of a ring, its keys in order
abbrev pub begins : List Edge → List ℕ
begins es = map (λ e. e.0) es

-- whether some edge is of the segment of a and b, in either direction
abbrev pub has_segment : ℕ → ℕ → List Edge → Bool
has_segment a b es = list_any (is_seg a b) es

-- how many rings have the segment of a and b, in either direction
abbrev pub users_of : Rings → ℕ → ℕ → ℕ
users_of m a b = count_by (has_segment a b) (rings.values m)
