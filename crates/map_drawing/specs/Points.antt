-- Points of the picture of a map.
use Rattle.std.specs.Prelude.{◌≡◌, pos, Bool, ◌+ℤ◌, ◌&&◌}
use Rattle.std.specs.Int.{int_min}
use Rattle.std.specs.Ordering.{int_eq}
use Rattle.map_drawing.specs.declared.points.Point.{Point}

-- two points are one
abbrev pub is_same : Point → Point → Bool
is_same p q = int_eq p.x q.x && int_eq p.y q.y

-- the next point on the right, if there is one
pub record IsBeside (p q : Point) : Type 0 where
  pub across : q.x ≡ int_min (p.x +ℤ pos 1) (pos 1000000000000000000)
  pub down : q.y ≡ p.y
