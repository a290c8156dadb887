-- Who holds a side, by what the borders keep of it.
use Rattle.std.specs.Prelude.{ℕ, ◌+◌, ◌-◌, ◌/◌, ◌%◌, ◌==◌, nat_lt, List, [], ◌∷◌, slice_index_or, map, if◌then◌else◌}
use Rattle.std.specs.Prelude.{◌≡◌, ◌<◌, ◌≤◌, ◌*◌, length, slice_index, unsigned_abs}
use Rattle.std.specs.List.{All, flat_map}
use Rattle.std.specs.List.Sorted.{IsNonDecreasing}
use Rattle.layer_sides.specs.Common.{Bordering}
use Rattle.layer_faces.specs.Areas.{side_term, total}
use Rattle.layer_faces.specs.Lengths.{border_length}
use Rattle.layer_faces.specs.Holders.{IsOnce, features_of}
use Rattle.layer_faces.specs.Faces.{FaceOf, IsKind}
use Rattle.layer_faces.specs.declared.face.Face.{Face}
use Rattle.layer_faces.specs.Seen.{face_seen, nowhere, side_at}

-- n, where it is not among these ascending numbers, and the others: those that the function gives
-- for the rest, and the lesser ones
abbrev pub merge_one : ℕ → (List ℕ → List ℕ) → List ℕ → List ℕ
merge_one n others [] = n ∷ others []
merge_one n others (m ∷ ms) =
    if nat_lt m n then (m ∷ merge_one n others ms) else (if m == n then others ms else (n ∷ others (m ∷ ms)))

-- of two ascending lists of numbers those that are in one of them alone
abbrev pub apart : List ℕ → List ℕ → List ℕ
apart [] ms = ms
apart (n ∷ ns) ms = merge_one n (apart ns) ms

-- a border that there is not
abbrev pub no_border : Bordering
no_border = record { segment = nowhere; bounds = []; right = [] }

-- the border of side a, of which it is the left side where a is even, and else the right one
abbrev pub border_at : List Bordering → ℕ → Bordering
border_at borders a = slice_index_or borders (a / 2) no_border

-- the polygons that hold side a: on the left of a border those that hold its right side, but for
-- those that it bounds, which hold one side alone
abbrev pub held_at : List Bordering → ℕ → List ℕ
held_at borders a =
    let b = border_at borders a in if a % 2 == 0 then apart b.bounds b.right else b.right

-- the number of the other side of the border
abbrev pub opposite_number : ℕ → ℕ
opposite_number a = if a % 2 == 0 then a + 1 else a - 1

-- the polygons that hold the other side of the border of one of these sides
abbrev pub beside_numbers : List Bordering → List ℕ → List ℕ
beside_numbers borders sides = flat_map (λ a. held_at borders (opposite_number a)) sides

-- the polygons that are reported for a face: those that hold it or, if none does, those beside it
abbrev pub told_numbers : List Bordering → List ℕ → List ℕ → List ℕ
told_numbers borders [] sides = beside_numbers borders sides
told_numbers borders (n ∷ ns) sides = n ∷ ns

-- all sides with these numbers are held by the holders of the face, and what is told of it is so
pub record IsKeptFace (borders : List Bordering) (owners numbers : List ℕ) (f : FaceOf) : Type 0 where
  pub sides : f.sides ≡ map (side_at (map (λ b. b.segment) borders)) numbers
  pub held : All (λ a. held_at borders a ≡ f.holders) numbers
  pub told : IsOnce (features_of owners (told_numbers borders f.holders numbers)) f.features
  pub area : f.area ≡ total side_term f.sides
  pub border : f.border ≡ border_length f.sides
  pub kind : IsKind f.holders f.features f.kind

-- the face is made of sides of these borders, ascending, and one or more; its area is small
pub record IsFound {A : Type 0} (borders : List Bordering) (owners : List ℕ) (f : Face A) : Type 0 where
  pub kept : IsKeptFace borders owners f.sides.items (face_seen (map (λ b. b.segment) borders) f)
  pub ascending : IsNonDecreasing f.sides.items
  pub some : 0 < length f.sides.items
  pub named : slice_index f.sides.items 0 ≡ f.first
  pub within : All (λ a. a < 2 * length borders) f.sides.items
  pub small : unsigned_abs f.twice_area ≤ 2000000000000000000000000 * length f.sides.items
