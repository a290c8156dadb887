-- The report of what keeps a map from opening: a fact a line.
use Rattle.std.specs.Prelude.{ℕ, Bool, ◌&&◌, ◌==◌, List, [], ◌++◌, length, take, codes, decimal, flat_map, if◌then◌else◌}
use Rattle.std.specs.Fmt.{signed_decimal}
use Rattle.map_mending.specs.declared.change.AreaChange.{AreaChange}
use Rattle.grid_geometry.specs.Common.{position_text, segment_text}
use Rattle.grid_reader.specs.declared.told.Told.{Told}
use Rattle.map_mending.specs.declared.parted.Parted.{Parted}
use Rattle.segment_paths.specs.Common.{PathOfSegment}
use Rattle.topo_outline.specs.declared.fault.RingAt.{RingAt}
use Rattle.walk_faults.specs.declared.findings.Crossing.{Crossing}
use Rattle.walk_faults.specs.declared.findings.Findings.{Findings}
use Rattle.walk_faults.specs.declared.findings.Repeat.{Repeat}
use Rattle.walk_faults.specs.declared.findings.Touch.{Touch}

-- ---- the lines

-- the numbers of the feature, of the polygon and of the ring: "F P R"
abbrev pub ring_numbers : RingAt → List ℕ
ring_numbers r =
    decimal r.feature ++ (codes " " ++ (decimal r.polygon ++ (codes " " ++ decimal r.ring)))

-- the ring has fewer than three positions: "short F P R"
abbrev pub short_line : RingAt → List ℕ
short_line r = codes "short " ++ (ring_numbers r ++ codes "\n")

-- the ring passes more than once through the position: "repeats F P R X Y"
abbrev pub repeat_line : Repeat → List ℕ
repeat_line r =
    codes "repeats " ++ (ring_numbers r.ring ++ (codes " " ++ (position_text r.pos ++ codes "\n")))

-- the vertex lies on the segment and is none of its ends: "on X Y / X Y X Y"
abbrev pub touch_line : Touch → List ℕ
touch_line t =
    codes "on " ++ (position_text t.pos ++ (codes " / " ++ (segment_text t.segment ++ codes "\n")))

-- the segments cross: "cross X Y X Y / X Y X Y"
abbrev pub crossing_line : Crossing → List ℕ
crossing_line c =
    codes "cross " ++ (segment_text c.first ++ (codes " / " ++ (segment_text c.second ++ codes "\n")))

-- how many findings there are of each kind: "counts short N repeats N on N cross N"
abbrev pub found_text : ℕ → ℕ → ℕ → ℕ → List ℕ
found_text short repeats touches crossings =
    codes "counts short " ++ (decimal short ++ (codes " repeats " ++ (decimal repeats
    ++ (codes " on " ++ (decimal touches ++ (codes " cross " ++ decimal crossings))))))

abbrev pub counts_line : ℕ → ℕ → ℕ → ℕ → List ℕ
counts_line short repeats touches crossings =
    found_text short repeats touches crossings ++ codes "\n"

-- ---- the whole

-- nothing is found
abbrev pub is_clear : List RingAt → List Repeat → List Touch → List Crossing → Bool
is_clear short repeats touches crossings =
    length short == 0 && length repeats == 0 && length touches == 0 && length crossings == 0

-- every coordinate is written as a whole number, and nothing was left out
abbrev pub reads_unchanged : Told → Bool
reads_unchanged grid = grid.whole && grid.heights == 0

-- the map opens as it is: "opens"
abbrev pub opens_line : Bool → List ℕ
opens_line clear = if clear then codes "opens\n" else []

-- coordinates have up to so many decimals, the grid has so many, and so many positions were rounded:
-- "decimals D digits K rounded N"
abbrev pub decimals_line : Told → List ℕ
decimals_line grid =
    if grid.whole then [] else (codes "decimals " ++ (decimal grid.decimals
    ++ (codes " digits " ++ (decimal grid.digits ++ (codes " rounded " ++ (decimal grid.rounded
    ++ codes "\n"))))))

-- so many positions had further numbers, which were left out: "heights N"
abbrev pub heights_line : Told → List ℕ
heights_line grid =
    if grid.heights == 0 then [] else (codes "heights " ++ (decimal grid.heights ++ codes "\n"))

-- so many lines of the map were left out: "lines N"
abbrev pub lines_line : ℕ → List ℕ
lines_line dropped = if dropped == 0 then [] else (codes "lines " ++ (decimal dropped ++ codes "\n"))

-- what the grid is, and how many lines were left out
abbrev pub grid_text : Told → ℕ → List ℕ
grid_text grid dropped = decimals_line grid ++ (heights_line grid ++ lines_line dropped)

-- a line for each of the first findings of a kind, at most so many
abbrev pub lines : {X : Type 0} → ℕ → (X → List ℕ) → List X → List ℕ
lines most line xs = flat_map line (take most xs)

-- what the grid is, and what was found, of each kind at most so many lines
abbrev pub findings_text : ℕ → Told → ℕ
    → List RingAt → List Repeat → List Touch → List Crossing → List ℕ
findings_text most grid dropped short repeats touches crossings =
    opens_line (reads_unchanged grid && dropped == 0 && is_clear short repeats touches crossings)
    ++ (grid_text grid dropped ++ (lines most short_line short ++ (lines most repeat_line repeats
    ++ (lines most touch_line touches ++ lines most crossing_line crossings))))

-- the report of what was found, of each kind at most so many lines; all are counted
abbrev pub report_text : ℕ → Told → ℕ
    → List RingAt → List Repeat → List Touch → List Crossing → List ℕ
report_text most grid dropped short repeats touches crossings =
    findings_text most grid dropped short repeats touches crossings
    ++ counts_line (length short) (length repeats) (length touches) (length crossings)

abbrev pub report_of : {A : Type 0} → ℕ → Told → ℕ → Findings A → List ℕ
report_of most grid dropped found =
    report_text most grid dropped found.short.items found.repeats.items found.touches.items
    found.crossings.items

-- ---- a map that was mended

-- the segment goes along these positions now: "path X Y X Y .. X Y"
abbrev pub path_line : PathOfSegment → List ℕ
path_line p =
    codes "path " ++ (position_text p.0.lo
    ++ (flat_map (λ q. codes " " ++ position_text q) p.1
    ++ (codes " " ++ (position_text p.0.hi ++ codes "\n"))))

-- the polygon stands as so many polygons now: "parts F P N"
abbrev pub parts_line : Parted → List ℕ
parts_line t =
    codes "parts " ++ (decimal t.feature ++ (codes " " ++ (decimal t.polygon
    ++ (codes " " ++ (decimal t.parts ++ codes "\n")))))

-- twice the area of the feature was and is, and its borders swept over: "area F A B S"
abbrev pub area_line : AreaChange → List ℕ
area_line c =
    codes "area " ++ (decimal c.feature ++ (codes " " ++ (signed_decimal c.before
    ++ (codes " " ++ (signed_decimal c.after ++ (codes " " ++ (decimal c.swept ++ codes "\n")))))))

-- how many there are of each kind:
-- "counts short N repeats N on N cross N paths N parts N areas N"
abbrev pub all_counts_line : ℕ → ℕ → ℕ → ℕ → ℕ → ℕ → ℕ → List ℕ
all_counts_line short repeats touches crossings paths parts areas =
    found_text short repeats touches crossings
    ++ (codes " paths " ++ (decimal paths ++ (codes " parts " ++ (decimal parts
    ++ (codes " areas " ++ (decimal areas ++ codes "\n"))))))

-- the report of what was found and of what was done about it, of each kind at most so many lines
abbrev pub mended_report : {A : Type 0}
    → ℕ → Told → ℕ → Findings A → List PathOfSegment → List Parted → List AreaChange → List ℕ
mended_report most grid dropped found paths parted areas =
    findings_text most grid dropped found.short.items found.repeats.items found.touches.items found.crossings.items
    ++ (lines most path_line paths ++ (lines most parts_line parted ++ (lines most area_line areas
    ++ all_counts_line (length found.short.items) (length found.repeats.items)
    (length found.touches.items) (length found.crossings.items) (length paths) (length parted)
    (length areas))))
