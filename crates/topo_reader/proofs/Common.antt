-- The words of this crate that others cite most, passed on from one place. Declares nothing.
pub use Rattle.topo_reader.proofs.MeaningOfText.{is_read, is_read_by, made, opens}
pub use Rattle.topo_reader.proofs.Numbering.{rings_document, rings_within, sum_within}
pub use Rattle.topo_reader.proofs.OfRings.{along_of_walks, answers_of_walks, walks_along_meant}
pub use Rattle.topo_reader.proofs.OneReading.{one_reading}
pub use Rattle.topo_reader.proofs.RingsChanged.{rings_changed}
pub use Rattle.topo_reader.proofs.Steps.{bind_ok, demand_ok, ok_same}
