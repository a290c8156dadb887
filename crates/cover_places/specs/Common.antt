-- The words of this crate that others cite most, passed on from one place. Declares nothing.
pub use Rattle.cover_places.specs.Places.{PlaceOf, place_of, place_seen, places_of}
pub use Rattle.cover_places.specs.Text.{border_text, borders_text, point_text, properties_text, topology_text}
pub use Rattle.cover_places.specs.Told.{IsTold}
