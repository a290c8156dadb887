-- How fine a picture is.
use Rattle.std.specs.Prelude.{ℕ, ℤ, pos, ◌/◌, min, max}

-- how many parts a pixel has in a picture of so many positions: so many that there are two million for all of them,
-- from 1 to 100
abbrev pub parts_for : ℕ → ℤ
parts_for positions = pos (max 1 (min 100 (2000000 / max 1 positions)))
