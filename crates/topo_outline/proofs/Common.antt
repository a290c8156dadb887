-- The words of this crate that others cite most, passed on from one place. Declares nothing.
pub use Rattle.topo_outline.proofs.Copied.{copied_map}
pub use Rattle.topo_outline.proofs.KeptRings.{keeps-before_rings, keeps-in_rings}
pub use Rattle.topo_outline.proofs.KeptShapes.{keeps-cut, keeps-join, keeps-renamed, keeps-take_out}
pub use Rattle.topo_outline.proofs.Layering.{values-with_value_at}
pub use Rattle.topo_outline.proofs.LeafArcs.{HasArcs, leaves_have_arcs}
pub use Rattle.topo_outline.proofs.Levels.{is_a_list, list_here, list_nests}
pub use Rattle.topo_outline.proofs.Shaped.{outline_few, outline_gives, outline_means}
pub use Rattle.topo_outline.proofs.Walking.{carry, each_at_stop, each_at_turn, each_drop_turn, each_turn, regroup}
pub use Rattle.topo_outline.proofs.Walking.{tail_at, with_front}
