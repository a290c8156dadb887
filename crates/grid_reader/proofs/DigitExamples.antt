-- How many decimals a grid keeps, worked out.
use Rattle.kit_words.proofs.Common.{arith, refl, ◌≡◌, ℕ, ◌*◌, ◌^◌, List, [], ◌∷◌, pos, false, codes}
use Rattle.json_spans.specs.Common.{Node, value_from}
use Rattle.decimal_texts.specs.Common.{zeros_behind}
use Rattle.grid_reader.specs.Common.{Wants, PointNeeds, FinePosition, fitting, decimals_kept, decimals_of_all, no_needs, needs_of}

-- ---- what points need

abbrev at : ℕ → List ℕ → Node
at place bytes = record { at_byte = place; bytes = bytes }

abbrev needs : ℕ → ℕ → PointNeeds
needs decimals furthest = record { decimals = decimals; furthest = furthest }

nothing : needs_of [] ≡ no_needs
nothing = refl

-- the most decimals of one, and the distance of another
of_two : needs_of (at 7 (codes "1.25") ∷ at 13 (codes "-30.5") ∷ []) ≡ needs 2 (305 * 10 ^ 23)
unfolding value_from zeros_behind
of_two = refl

-- what is no number, or too far for each grid
passed_over : needs_of (at 7 (codes "null") ∷ at 13 (codes "\"1.5\"") ∷ at 20 (codes "1e13") ∷ []) ≡ needs 0 0
unfolding value_from
passed_over = refl

-- ---- how many decimals are kept

-- all decimals, where points need so much
abbrev all : PointNeeds → Wants
all points = record { digits = 24; finer = 0; drop_heights = false; points_lie = false; points = points; few_digits = omega arith; not_too_fine = omega arith }

-- two of them at most
abbrev at_most_two : PointNeeds → Wants
at_most_two points = record { digits = 2; finer = 0; drop_heights = false; points_lie = false; points = points; few_digits = omega arith; not_too_fine = omega arith }

-- all of them, on a grid 10^11 times as fine
abbrev on_finer : PointNeeds → Wants
on_finer points = record { digits = 24; finer = 11; drop_heights = false; points_lie = false; points = points; few_digits = omega arith; not_too_fine = omega arith }

-- an arc from 0 0 to a position of so many tenths and so many hundredths
abbrev to : ℕ → ℕ → List (List FinePosition)
to tenths hundredths =
    (record { x = pos 0; y = pos 0 } ∷ record { x = pos (tenths * 10 ^ 23); y = pos (hundredths * 10 ^ 22) } ∷ []) ∷ []

-- so far from 0, in whole numbers
abbrev so_far : ℕ → ℕ
so_far n = n * 10 ^ 24

-- arcs to 1.5 0, and no point
no_points : decimals_kept (all no_needs) (to 15 0) ≡ 1
unfolding fitting zeros_behind
no_points = refl

-- and a point with three decimals
raised : decimals_kept (all (needs 3 (so_far 2))) (to 15 0) ≡ 3
unfolding fitting zeros_behind
raised = refl

told : decimals_of_all (all (needs 3 (so_far 2))) (to 15 0) ≡ 3
unfolding zeros_behind
told = refl

-- as many as are asked for
asked_for : decimals_kept (at_most_two (needs 3 (so_far 2))) (to 15 0) ≡ 2
unfolding fitting zeros_behind
asked_for = refl

-- a point at 10^10, with which two of three decimals fit
partly : decimals_kept (all (needs 3 (so_far (10 ^ 10)))) (to 15 0) ≡ 2
unfolding fitting zeros_behind
partly = refl

-- arcs to 0 0.25 have more decimals than a point
of_arcs : decimals_kept (all (needs 1 (so_far 2))) (to 0 25) ≡ 2
unfolding fitting zeros_behind
of_arcs = refl

-- a point at 10^11, with which one decimal fits, takes away none of them
far : decimals_kept (all (needs 3 (so_far (10 ^ 11)))) (to 0 25) ≡ 2
unfolding fitting zeros_behind
far = refl

-- nor does one further away than any on a grid
beyond : decimals_kept (all (needs 3 (so_far (2 * 10 ^ 12)))) (to 0 25) ≡ 2
unfolding fitting zeros_behind
beyond = refl

-- on a grid 10^11 times as fine a coordinate is within 10; a point at 2 fits with none of its decimals more
finer : decimals_kept (on_finer (needs 2 (so_far 2))) (to 5 0) ≡ 1
unfolding fitting zeros_behind
finer = refl

-- arcs to 30 2 have whole numbers, and their grid stays
whole : decimals_kept (all (needs 3 (so_far 2))) (to 300 200) ≡ 0
unfolding fitting zeros_behind
whole = refl

-- so does that of points without arcs
no_arcs : decimals_kept (all (needs 3 (so_far 2))) [] ≡ 0
unfolding fitting
no_arcs = refl
