-- The words of this crate that others cite most, passed on from one place. Declares nothing.
pub use Rattle.map_text.proofs.Around.{further_push}
pub use Rattle.map_text.proofs.Ends.{long_cut, ring_cut, with_pieces-each}
pub use Rattle.map_text.proofs.Indexed.{all_arcs, becomes_arc}
pub use Rattle.map_text.proofs.Lists.{each-flat_map}
pub use Rattle.map_text.proofs.OnceEach.{Simple, are_equal-refl, are_equal-true}
pub use Rattle.map_text.proofs.ReadingFeatures.{further_joined}
pub use Rattle.map_text.proofs.ReadingRings.{pieces_length}
