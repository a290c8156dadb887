-- The places of what keeps a map from opening: positions, each with the finding that it stands for.
use Rattle.std.specs.Prelude.{◌≡◌, ℕ, List, [], ◌∷◌, ◌++◌, map, take, Option, Some, None, unwrap_or, slice_get}
use Rattle.std.specs.List.{AllZip}
use Rattle.grid_geometry.specs.Common.{Position}
use Rattle.segment_paths.specs.Common.{IsRoundedCrossing}
use Rattle.topo_outline.specs.declared.fault.RingAt.{RingAt}
use Rattle.walk_faults.specs.declared.findings.Crossing.{Crossing}
use Rattle.walk_faults.specs.declared.findings.Findings.{Findings}
use Rattle.walk_faults.specs.declared.findings.Repeat.{Repeat}
use Rattle.walk_faults.specs.declared.findings.Touch.{Touch}
use Rattle.walk_faults.specs.Common.{flat_map_at}
use Rattle.place_text.specs.declared.places.Kind.{Kind}
use Rattle.place_text.specs.declared.places.Kind.TheVariants.{Short, Repeats, On, Cross}
use Rattle.place_text.specs.declared.places.Place.{Place}

-- ---- where a walk stands

-- the list with this number among lists; an empty one where there is none
abbrev pub list_at : {X : Type 0} → List (List X) → ℕ → List X
list_at lists n = unwrap_or (slice_get lists n) []

-- the walk that stands there in a map, which is given by feature, polygon and ring
abbrev pub walk_at : List (List (List (List Position))) → RingAt → List Position
walk_at features r = list_at (list_at (list_at features r.feature) r.polygon) r.ring

-- ---- one finding

-- a position as the place of the finding of this kind with this number
abbrev pub place_at : Kind → ℕ → Option RingAt → Position → Place
place_at kind n ring p = record { pos = p; kind = kind; number = n; ring = ring }

-- a walk of fewer than three positions has its place at the first one, and none without positions
abbrev pub short_place : List (List (List (List Position))) → ℕ → RingAt → List Place
short_place features n r = map (place_at Short n (Some r)) (take 1 (walk_at features r))

-- a position that a walk passes more than once
abbrev pub repeat_place : ℕ → Repeat → List Place
repeat_place n r = place_at Repeats n (Some r.ring) r.pos ∷ []

-- a vertex on a segment
abbrev pub touch_place : ℕ → Touch → List Place
touch_place n t = place_at On n None t.pos ∷ []

-- a position in which two segments cross
abbrev pub crossing_place : ℕ → Position → List Place
crossing_place n p = place_at Cross n None p ∷ []

-- ---- all findings

-- these are the positions in which the pairs of segments cross, each rounded to the grid
abbrev pub AreCrossings : List Crossing → List Position → Type 0
AreCrossings pairs ps = AllZip (λ pair p. IsRoundedCrossing pair.first pair.second p) pairs ps

-- the places in the order of a report, where these are the positions in which segments cross
abbrev pub places_of : {A : Type 0} → List (List (List (List Position))) → Findings A
    → List Position → List Place
places_of features found crossings =
    flat_map_at (short_place features) 0 found.short.items
    ++ (flat_map_at repeat_place 0 found.repeats.items
    ++ (flat_map_at touch_place 0 found.touches.items ++ flat_map_at crossing_place 0 crossings))

-- these are the places of the findings in a map
pub record ArePlaces {A : Type 0} (features : List (List (List (List Position))))
    (found : Findings A) (places : List Place) : Type 0 where
  pub crossings : List Position
  pub rounded : AreCrossings found.crossings.items crossings
  pub all : places ≡ places_of features found crossings
