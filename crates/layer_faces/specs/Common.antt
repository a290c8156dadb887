-- The words of this crate that others cite most, passed on from one place. Declares nothing.
pub use Rattle.layer_faces.specs.Areas.{all_sides, area_at, side_ends, side_term, total}
pub use Rattle.layer_faces.specs.Lengths.{border_length, length_of, square, width_of}
unfoldable pub use Rattle.layer_faces.specs.Lengths.{root}
pub use Rattle.layer_faces.specs.Holders.{IsOnce, beside, features_of, opposite, told_by}
pub use Rattle.layer_faces.specs.Faces.{AreFaces, FaceOf, IsFace, IsKind, by_holders, is_outside, kind_of, outside}
pub use Rattle.layer_faces.specs.Sums.{AddUp, AreSums, area_of_kind, is_any, is_gap, is_held}
pub use Rattle.layer_faces.specs.Uneven.{uneven_from, uneven_of}
pub use Rattle.layer_faces.specs.Seen.{face_seen, faces_seen, segments_seen, side_at}
