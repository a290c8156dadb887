-- The order of the list of segments under way, passed on.
pub use Rattle.layer_sides.specs.Order.{InOrder, is_left, is_right, reaches}
