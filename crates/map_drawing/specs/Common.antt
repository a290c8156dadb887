-- The words of this crate that others cite most, passed on from one place. Declares nothing.
pub use Rattle.map_drawing.specs.Paths.{line_path, points_of, ring_path, rings_path, start_path, step_path, steps_path}
