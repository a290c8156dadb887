-- What came of a position that is given a key.
use Rattle.std.specs.Prelude.{◌≡◌, ◌≢◌, ℕ, Some, None}
use Rattle.std.specs.FinMap as map
use Rattle.grid_geometry.specs.Common.{Position}
use Rattle.vertex_index.specs.Placement.{Placement}

-- a vertex stood there under this key, and nothing has changed
pub record IsHere (old new : Placement) (k : ℕ) (p : Position) : Type 0 where
  pub here : map.get old k ≡ Some p
  pub same : new ≡ old

-- none stood there, and one was put under this key, which was not held
pub record IsNew (old new : Placement) (k : ℕ) (p : Position) : Type 0 where
  pub key : map.get old k ≡ None
  pub none : (j : ℕ) → map.get old j ≢ Some p
  pub put : new ≡ map.insert old k p
