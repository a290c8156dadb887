-- What the sweep finds: of each border the polygons that hold its right side, by the borders alone.
use Rattle.std.specs.Prelude.{ℕ, ◌≡◌, ◌==◌, ◌&&◌, Bool, false, List, [], ◌∷◌, Contains}
use Rattle.std.specs.List.{list_any}
use Rattle.std.specs.List.Sorted.{IsStrictlySortedBy}
use Rattle.std.specs.Ordering.{nat_cmp}
use Rattle.grid_geometry.specs.Common.{Position, Segment, is_counted, xor}
use Rattle.layer_sides.specs.Sides.{doubled, middle}
use Rattle.layer_sides.specs.Borders.{Bordering}

-- the number is among these
abbrev pub has_number : ℕ → List ℕ → Bool
has_number n ns = list_any (λ m. m == n) ns

-- a way to the right from w, a position of the grid that is twice as fine, passes the segment
abbrev pub counts_for : Position → Segment → Bool
counts_for w s = is_counted w (doubled s.lo) (doubled s.hi)

-- a way to the right from w passes an odd number of borders of polygon n
abbrev pub is_odd_at : List Bordering → ℕ → Position → Bool
is_odd_at [] n w = false
is_odd_at (b ∷ bs) n w = xor (has_number n b.bounds && counts_for w b.segment) (is_odd_at bs n w)

-- each border has, ascending, the numbers of the polygons of which a way to the right from its
-- middle passes an odd number of borders
pub record AreSwept (borders : List Bordering) : Type 0 where
  pub odd : (b : Bordering) → Contains borders b → (n : ℕ)
      → has_number n b.right ≡ is_odd_at borders n (middle b.segment)
  pub sorted : (b : Bordering) → Contains borders b → IsStrictlySortedBy nat_cmp b.right
