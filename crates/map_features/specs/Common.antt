-- The words of this crate that others cite most, passed on from one place. Declares nothing.
pub use Rattle.map_features.specs.Missing.{missing_flags}
pub use Rattle.map_features.specs.Shapes.{ShapeIn}
pub use Rattle.map_features.specs.Windows.{ArePolygonsShown, AreRingsShown, AreWithin, CoversBounds, Includes, IsRingShown, IsInWindow, IsSquareAbout, IsWithin, RingIn, RingsIn}
