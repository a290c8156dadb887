-- The words that name a conflict, how wide labels are, and how rings are drawn, worked out.
use Rattle.kit_words.proofs.Common.{◌≡◌, ◌++◌, [], ◌∷◌, refl, arith, ℕ, ◌≤◌, pos, codes, digits}
use Rattle.grid_geometry.specs.Common.{position}
use Rattle.map_drawing.specs.Labels.{drawn_text, label_width}
use Rattle.map_drawing.specs.Corners.{apart, corners, IsVisible}
use Rattle.map_drawing.specs.Fineness.{parts_for}
use Rattle.map_drawing.specs.Marks.{conflict_words}
use Rattle.map_drawing.specs.Paths.{ring_path}
use Rattle.map_drawing.specs.declared.points.Point.{Point}

named : conflict_words (record {
  first = record { lo = position (pos 0) (pos 0); hi = position (pos 10) (pos 10) };
  second = record { lo = position (pos 0) (pos 10); hi = position (pos 10) (pos 0) };
}) ≡ codes "conflict 0 0 10 10 / 0 10 10 0"
unfolding digits
named = refl

-- control characters are U+FFFD, and so are U+FFFE and U+FFFF; a carriage return and a tab stay
control : drawn_text (codes "a" ++ 11 ∷ 31 ∷ 98 ∷ []) ≡ 97 ∷ 239 ∷ 191 ∷ 189 ∷ 239 ∷ 191 ∷ 189 ∷ 98 ∷ []
control = refl

noncharacters : drawn_text (239 ∷ 191 ∷ 190 ∷ 239 ∷ 191 ∷ 191 ∷ []) ≡ 239 ∷ 191 ∷ 189 ∷ 239 ∷ 191 ∷ 189 ∷ []
noncharacters = refl

kept : drawn_text (9 ∷ 13 ∷ 10 ∷ 239 ∷ 183 ∷ 144 ∷ []) ≡ 9 ∷ 13 ∷ 10 ∷ 239 ∷ 183 ∷ 144 ∷ []
kept = refl

-- "#0 " and three control characters: nine letters, and one more
with_control : label_width (codes "#0 " ++ 8 ∷ 11 ∷ 31 ∷ []) ≡ pos 7200
with_control = refl

-- letters of one byte, of two (é), of three (€) and of four (😀)
of_each_length : label_width (codes "e" ++ 195 ∷ 169 ∷ 226 ∷ 130 ∷ 172 ∷ 240 ∷ 159 ∷ 152 ∷ 128 ∷ []) ≡ pos 5040
of_each_length = refl

escapes : label_width (codes "<&>") ≡ pos 2880
escapes = refl

-- ---- rings, as they are drawn

at : (x y : ℕ) → x ≤ 1000000000000000000 → y ≤ 1000000000000000000 → Point
at x y h k = record { x = pos x; y = pos y; across = h; down = k }

corner : Point
corner = at 0 0 (omega arith) (omega arith)

next : Point
next = at 1 0 (omega arith) (omega arith)

three : Point
three = at 3 0 (omega arith) (omega arith)

nine : Point
nine = at 9 0 (omega arith) (omega arith)

below : Point
below = at 9 4 (omega arith) (omega arith)

aslant : Point
aslant = at 8 3 (omega arith) (omega arith)

left : Point
left = at 0 6 (omega arith) (omega arith)

-- twice at one point
once : apart (corner ∷ corner ∷ three ∷ nine ∷ nine ∷ corner ∷ []) ≡ corner ∷ three ∷ nine ∷ corner ∷ []
unfolding corner at three nine
once = refl

-- a ring at one point goes on to the next one
dot : IsVisible (corner ∷ []) (corner ∷ next ∷ [])
unfolding corner at next
dot = (next, record { across = refl; down = refl }, refl)

-- on the way straight along
along : corners (corner ∷ three ∷ nine ∷ below ∷ []) ≡ corner ∷ nine ∷ below ∷ []
unfolding corner at three nine below
along = refl

-- a point that a ring goes to and comes back from stays
spike : corners (corner ∷ nine ∷ three ∷ below ∷ []) ≡ corner ∷ nine ∷ three ∷ below ∷ []
unfolding corner at nine three below
spike = refl

path_of : ring_path (corner ∷ nine ∷ below ∷ aslant ∷ left ∷ []) ≡ codes "M0 0h9v4l-1-1l-8 3z"
unfolding digits corner at nine below aslant left
path_of = refl

-- up to 20,000 positions in hundredths, a million in halves, two million and more in whole pixels
hundredths : parts_for 20000 ≡ pos 100
hundredths = refl

fewer : parts_for 97932 ≡ pos 20
fewer = refl

halves : parts_for 1000000 ≡ pos 2
halves = refl

whole : parts_for 4000000 ≡ pos 1
whole = refl

no_position : parts_for 0 ≡ pos 100
no_position = refl
