-- The words of this crate that others cite most, passed on from one place. Declares nothing.
pub use Rattle.edit_records.proofs.ExchangedSizes.{head_apart, place_in}
pub use Rattle.edit_records.proofs.ExchangesBack.{deleted, merged, split}
pub use Rattle.edit_records.proofs.ExchangesMade.{cut-made, exchanged-append, exchanged-feature, exchanged-fills}
pub use Rattle.edit_records.proofs.ExchangesMade.{feature-own, fills-nowhere, join-made, take_out-made}
pub use Rattle.edit_records.proofs.PlacesBack.{filled-agree, filled-grown, fills-grown}
pub use Rattle.edit_records.proofs.PlacesFilled.{filled-changed, fills-in_rings, found-filled}
pub use Rattle.edit_records.proofs.Recorded.{delete-recorded, merge-recorded, move-recorded, rename-recorded}
pub use Rattle.edit_records.proofs.Recorded.{split-recorded}
pub use Rattle.edit_records.proofs.RemovedFits.{remove-recorded, thin-begun, thin-more}
