-- Worked examples: what is reported of small maps.
use Rattle.kit_words.proofs.Common.{◌≡◌, ℕ, Bool, true, refl, pos, List, [], ◌∷◌, codes, if◌then◌else◌, fold, digits}
use Rattle.grid_geometry.specs.Common.{cross, is_within, is_on, are_split, orientation, Position, position, position_lt}
use Rattle.grid_geometry.specs.Common.{position_eq, Segment, segment_eq, segment_lt}
use Rattle.walk_faults.specs.Common.{walks_of, short_walks, all_repeats, all_positions, segments_of_walks, touches_among}
use Rattle.walk_faults.specs.Common.{crossings_among}
use Rattle.grid_reader.specs.declared.told.Told.{Told}
use Rattle.mend_report.specs.Common.{report_text}

abbrev at : ℕ → ℕ → Position
at x y = position (pos x) (pos y)

-- a map by feature, polygon and ring
abbrev Map : Type 0
Map = List (List (List (List Position)))

-- a feature of one polygon with one ring
abbrev feature : List Position → List (List (List Position))
feature walk = (walk ∷ []) ∷ []

-- ascending elements with x in its place, each once
abbrev add : {X : Type 0} → (X → X → Bool) → (X → X → Bool) → List X → X → List X
add lt eq [] x = x ∷ []
add lt eq (y ∷ ys) x = if lt x y then (x ∷ y ∷ ys) else (if eq x y then (y ∷ ys) else (y ∷ add lt eq ys x))

abbrev vertices : Map → List Position
vertices m = fold (add position_lt position_eq) [] (all_positions (walks_of m))

abbrev sides : Map → List Segment
sides m = fold (add segment_lt segment_eq) [] (segments_of_walks (walks_of m))

-- the grid of a map whose coordinates are whole numbers
abbrev whole : Told
whole = record { decimals = 0; digits = 0; rounded = 0; heights = 0; whole = true }

-- the report of a map, of each kind at most so many lines
abbrev report : ℕ → Map → List ℕ
report most m =
    report_text most whole 0 (short_walks (walks_of m)) (all_repeats (walks_of m))
    (touches_among (vertices m) (sides m)) (crossings_among (sides m) (sides m))

-- a square, and two on its right side, whose common corner it has not
abbrev vertex_on_border_map : Map
vertex_on_border_map =
    feature (at 0 0 ∷ at 10 0 ∷ at 10 10 ∷ at 0 10 ∷ [])
    ∷ feature (at 10 0 ∷ at 20 0 ∷ at 20 5 ∷ at 10 5 ∷ [])
    ∷ feature (at 10 5 ∷ at 20 5 ∷ at 20 10 ∷ at 10 10 ∷ [])
    ∷ []

vertex_on_border : report 1000 vertex_on_border_map
    ≡ codes "on 10 5 / 10 0 10 10\ncounts short 0 repeats 0 on 1 cross 0\n"
unfolding digits is_within is_on orientation cross are_split
vertex_on_border = refl

-- two neighbours that overlap
abbrev crossing_map : Map
crossing_map =
    feature (at 0 0 ∷ at 20 0 ∷ at 20 7 ∷ at 0 10 ∷ [])
    ∷ feature (at 5 8 ∷ at 30 8 ∷ at 30 20 ∷ at 5 20 ∷ [])
    ∷ []

crossing : report 1000 crossing_map
    ≡ codes "cross 0 10 20 7 / 5 8 5 20\ncross 0 10 20 7 / 5 8 30 8\ncounts short 0 repeats 0 on 0 cross 2\n"
unfolding digits is_within is_on orientation cross are_split
crossing = refl

-- the same, of each kind one line: the counts are whole
one_line : report 1 crossing_map
    ≡ codes "cross 0 10 20 7 / 5 8 5 20\ncounts short 0 repeats 0 on 0 cross 2\n"
unfolding digits is_within is_on orientation cross are_split
one_line = refl

-- a ring with a spike
abbrev spike_map : Map
spike_map =
    feature (at 0 0 ∷ at 10 0 ∷ at 10 10 ∷ at 10 15 ∷ at 10 10 ∷ at 0 10 ∷ [])
    ∷ []

spike : report 1000 spike_map ≡ codes "repeats 0 0 0 10 10\ncounts short 0 repeats 1 on 0 cross 0\n"
unfolding digits is_within is_on orientation cross are_split
spike = refl

-- rings that collapsed, and a square
abbrev collapsed_map : Map
collapsed_map =
    feature (at 0 0 ∷ at 5 0 ∷ [])
    ∷ (((at 2 2 ∷ []) ∷ []) ∷ ((at 0 0 ∷ at 10 0 ∷ at 10 10 ∷ at 0 10 ∷ []) ∷ []) ∷ [])
    ∷ []

collapsed : report 1000 collapsed_map
    ≡ codes "short 0 0 0\nshort 1 0 0\non 5 0 / 0 0 10 0\ncounts short 2 repeats 0 on 1 cross 0\n"
unfolding digits is_within is_on orientation cross are_split
collapsed = refl

-- two squares with a common side
abbrev opens_map : Map
opens_map =
    feature (at 0 0 ∷ at 10 0 ∷ at 10 10 ∷ at 0 10 ∷ [])
    ∷ feature (at 10 0 ∷ at 20 0 ∷ at 20 10 ∷ at 10 10 ∷ [])
    ∷ []

opens : report 1000 opens_map ≡ codes "opens\ncounts short 0 repeats 0 on 0 cross 0\n"
unfolding digits is_within is_on orientation cross are_split
opens = refl

-- a map of nothing
abbrev nothing_map : Map
nothing_map =
    []

nothing : report 1000 nothing_map ≡ codes "opens\ncounts short 0 repeats 0 on 0 cross 0\n"
unfolding digits
nothing = refl
