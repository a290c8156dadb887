-- Worked examples: the lines of a report, bounds, and the layers that are looked at.
use Rattle.kit_words.proofs.Common.{◌≡◌, ℕ, pos, negsuc, refl, true, false, [], ◌∷◌, Some, None, codes, digits}
use Rattle.grid_geometry.specs.Common.{Position, position}
use Rattle.layer_sides.specs.Common.{Left, Right, Polygon}
use Rattle.layer_faces.specs.declared.kind.Kind.TheVariants.{Overlap, Gap, Lake}
use Rattle.cover_report.specs.Asked.{Wants}
use Rattle.cover_report.specs.Counted.{is_told}
use Rattle.cover_report.specs.Faces.{FaceTold, first_ends}
use Rattle.cover_report.specs.Layers.{numbers_in, owners_from}
use Rattle.cover_report.specs.Report.{counts_line, face_line, uneven_line, wide_line}

abbrev at : ℕ → ℕ → Position
at x y = position (pos x) (pos y)

-- two squares overlap in a strip of a unit
abbrev strip : FaceTold
strip = record {
  kind = Overlap;
  features = 0 ∷ 1 ∷ [];
  area = pos 20;
  width = 1;
  from = at 9 10;
  to = at 9 0;
  sides = (at 9 10, at 9 0) ∷ (at 9 0, at 10 0) ∷ (at 10 10, at 9 10) ∷ (at 10 0, at 10 10) ∷ [];
}

abbrev lake : FaceTold
lake = record {
  kind = Lake;
  features = 3 ∷ [];
  area = pos 50;
  width = 3;
  from = at 5 10;
  to = at 5 5;
  sides = (at 5 10, at 5 5) ∷ (at 5 5, at 10 5) ∷ (at 10 10, at 5 10) ∷ (at 10 5, at 10 10) ∷ [];
}

strip_told : face_line strip ≡ codes "overlap 0 1 / 20 1 / 9 10 9 0\n"
unfolding digits
strip_told = refl

lake_told : face_line lake ≡ codes "lake 3 / 50 3 / 5 10 5 5\n"
unfolding digits
lake_told = refl

uneven_told : uneven_line (record { feature = 4; polygon = 1; by_rings = negsuc 749; even_odd = pos 750 }) ≡ codes "uneven 4 1 -750 750\n"
unfolding digits
uneven_told = refl

-- a width of 1 is in the first line, one of 3 in that of 4, and the line of 2 is not there
narrow : wide_line 0 1 (strip ∷ lake ∷ []) ≡ codes "wide 1 overlap 1 twice 0 gap 0 lake 0\n"
unfolding digits
narrow = refl

none_between : wide_line 1 2 (strip ∷ lake ∷ []) ≡ []
none_between = refl

wider : wide_line 2 4 (strip ∷ lake ∷ []) ≡ codes "wide 4 overlap 0 twice 0 gap 0 lake 1\n"
unfolding digits
wider = refl

counted : counts_line (record { overlaps = 1; twices = 2; gaps = 3; lakes = 4; uneven = 5 }) ≡ codes "counts overlap 1 twice 2 gap 3 lake 4 uneven 5\n"
unfolding digits
counted = refl

-- ---- bounds

abbrev within : ℕ → ℕ → Wants
within width area = record { layers = []; width = Some width; area = Some area; most = 10 }

abbrev unbounded : Wants
unbounded = record { layers = []; width = None; area = None; most = 10 }

at_the_bounds : is_told (within 1 20) Overlap strip ≡ true
at_the_bounds = refl

too_wide : is_told (within 0 20) Overlap strip ≡ false
too_wide = refl

too_large : is_told (within 1 19) Overlap strip ≡ false
too_large = refl

another_kind : is_told unbounded Gap strip ≡ false
another_kind = refl

-- ---- polygons of features: two, none, one

abbrev empty : Polygon
empty = []

owners : owners_from 7 ((empty ∷ empty ∷ []) ∷ [] ∷ (empty ∷ []) ∷ []) ≡ 7 ∷ 7 ∷ 9 ∷ []
owners = refl

numbers : numbers_in ((empty ∷ empty ∷ []) ∷ [] ∷ (empty ∷ []) ∷ []) ≡ 0 ∷ 1 ∷ 0 ∷ []
numbers = refl

-- ---- the name of a face: its left side goes up the segment, its right one down

name_left : first_ends ((record { lo = at 9 0; hi = at 9 10 }, Left) ∷ []) ≡ (at 9 0, at 9 10)
name_left = refl

name_right : first_ends ((record { lo = at 9 0; hi = at 9 10 }, Right) ∷ []) ≡ (at 9 10, at 9 0)
name_right = refl
