-- The words of this crate that others cite most, passed on from one place. Declares nothing.
pub use Rattle.point_queries.specs.Covered.{CoversFeature}
pub use Rattle.point_queries.specs.Covering.{CoversRings, IsBoxAround, IsCovered, KeepsCovered, box_at, is_within_diagonal}
pub use Rattle.point_queries.specs.Held.{AreBoxesOf, IsLeast, IsWidened, IsWider, StaysHeld}
pub use Rattle.point_queries.specs.Near.{AreBehind, ListsUnseen, Cancels, HaveOdd, is_behind, ray_back, ray_to}
pub use Rattle.point_queries.specs.Odd.{EachOnce, AreOdd, ArePassed, HavePassed, ListsOdd, TellsInside, holds, is_of_holder}
pub use Rattle.point_queries.specs.Odd.{is_name, is_passed, is_polygon, odd, polygon_cmp, polygon_name, ray, ring_has}
pub use Rattle.point_queries.specs.Odd.{ring_named}
pub use Rattle.point_queries.specs.Told.{IsFaultOf}
pub use Rattle.point_queries.specs.Users.{IsSorted, Rises, on_edge}
