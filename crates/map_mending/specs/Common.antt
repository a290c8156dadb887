-- The words of this crate that others cite most, passed on from one place. Declares nothing.
pub use Rattle.map_mending.specs.Areas.{area_in, change_of, changes_from, told_if}
pub use Rattle.map_mending.specs.Bounding.{AreBounding, MendedBy, NeedsNoMending, bounds_in}
pub use Rattle.map_mending.specs.Faults.{AreUnparted, AreUnpartedIn, IsAt, IsMendFault, IsTooLarge, OnlyUnparted}
pub use Rattle.map_mending.specs.Faults.{by_paths, mended, without_paths}
pub use Rattle.map_mending.specs.Laws.{AllStayNear, ComesFrom, GoesAround, KeepsVertices, StaysNear, VerticesStay, put}
pub use Rattle.map_mending.specs.Laws.{stood}
pub use Rattle.map_mending.specs.Mended.{Mended, MendsFeature, MendsItem, MendsLayer, MendsPolygon, MendsPolygons}
pub use Rattle.map_mending.specs.Mended.{form_after, polygons_of_parts, with_mended_polygons}
pub use Rattle.map_mending.specs.Seen.{StandsFor, features_at, layers_after, piece_after, pieces_after, with_mended}
pub use Rattle.map_mending.specs.Swept.{IsBeside, swept_along, swept_by, swept_of, swept_walks, triangle}
pub use Rattle.map_mending.specs.Told.{TellsPartedIn, TellsParted, polygons_by_feature, told_from, told_in, told_of}
pub use Rattle.map_mending.specs.declared.change.AreaChange.{AreaChange}
pub use Rattle.map_mending.specs.declared.parted.Parted.{Parted}
