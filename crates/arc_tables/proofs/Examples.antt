-- Worked examples of what could be wrong by one.
use Rattle.kit_words.proofs.Common.{◌≡◌, ℕ, true, List, [], ◌∷◌, map, refl, ap, nat_cmp}
use Rattle.std.specs.Prelude.{count_by}
use Rattle.std.specs.FinMap as map_of
use Rattle.arc_tables.specs.Common.{Put, Edge, links, both_parts, times, gained, Rings, edges, begins, has_segment}
use Rattle.arc_tables.specs.Common.{users_of, including, without, where_some}

-- a path of three keys has two edges, and a ring of three keys has three
path_edges : links {A = ℕ} (7 ∷ 8 ∷ 9 ∷ []) ≡ (7, 8) ∷ (8, 9) ∷ []
path_edges = refl

ring_edges : edges (7 ∷ 8 ∷ 9 ∷ []) ≡ (7, 8) ∷ (8, 9) ∷ (9, 7) ∷ []
ring_edges = refl

ring_keys : begins (edges (7 ∷ 8 ∷ 9 ∷ [])) ≡ 7 ∷ 8 ∷ 9 ∷ []
ring_keys = refl

-- a ring of two keys goes along its segment twice
there_and_back : times 8 7 (edges (7 ∷ 8 ∷ [])) ≡ 2
there_and_back = refl

-- in reverse the new arc, which is the rest, comes first
reversed_parts : both_parts 4 6 (record { arc = 4; back = true }) ≡ record { arc = 6; back = true } ∷ record { arc = 4; back = true } ∷ []
reversed_parts = refl

forgotten : without 3 (3 ∷ 5 ∷ 3 ∷ []) ≡ 5 ∷ []
forgotten = refl

known_already : including 3 (3 ∷ 5 ∷ []) ≡ 3 ∷ 5 ∷ []
known_already = refl

learnt : including 4 (3 ∷ 5 ∷ []) ≡ 3 ∷ 5 ∷ 4 ∷ []
learnt = refl

-- an arc of one vertex has no segment in common with any ring, and one of two has
no_segment : where_some (7 ∷ []) (3 ∷ 5 ∷ []) ≡ []
no_segment = refl

one_segment : where_some (7 ∷ 8 ∷ []) (3 ∷ 5 ∷ []) ≡ 3 ∷ 5 ∷ []
one_segment = refl

-- two squares, under 0 and 2, of which the second is gone round the other way
abbrev squares : List (ℕ × List Edge)
squares = (0, edges (0 ∷ 1 ∷ 2 ∷ 3 ∷ [])) ∷ (2, edges (1 ∷ 4 ∷ 5 ∷ 2 ∷ [])) ∷ []

abbrev both_squares : Rings
both_squares = map_of.from_sorted {R = nat_cmp} squares

counted : (a b : ℕ) → users_of both_squares a b ≡ count_by (has_segment a b) (map (λ e. e.1) squares)
counted a b = ap (λ es. count_by (has_segment a b) (map (λ e. e.1) es)) (map_of.entries-from_sorted nat_cmp squares tt)

shared_side : users_of both_squares 1 2 ≡ 2
shared_side = counted 1 2

shared_side_back : users_of both_squares 2 1 ≡ 2
shared_side_back = counted 2 1

own_side : users_of both_squares 0 1 ≡ 1
own_side = counted 0 1

diagonal : users_of both_squares 0 2 ≡ 0
diagonal = counted 0 2

-- ---- positions gained

abbrev rings : List (List Edge)
rings = map (λ e. e.1) squares

abbrev put : ℕ → ℕ → ℕ → Put
put a b q = record { a = a; b = b; q = q }

-- a vertex in the shared side stands in both squares
in_the_shared_side : gained (put 1 2 6 ∷ []) rings ≡ 2
in_the_shared_side = refl

-- and so does a second one, in a half of it
in_a_half_of_it : gained (put 1 2 6 ∷ put 6 2 7 ∷ []) rings ≡ 4
in_a_half_of_it = refl

-- the side is none any more once it has a vertex
in_the_side_again : gained (put 1 2 6 ∷ put 1 2 7 ∷ []) rings ≡ 2
in_the_side_again = refl

in_an_own_side : gained (put 0 1 6 ∷ []) rings ≡ 1
in_an_own_side = refl

across : gained (put 0 2 6 ∷ []) rings ≡ 0
across = refl
