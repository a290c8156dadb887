-- A value where it stands.
use Rattle.std.specs.Prelude.{ℕ, List}

-- a value: the place of its first byte, and its bytes
pub record Node : Type 0 where
  pub at_byte : ℕ
  pub bytes : List ℕ
