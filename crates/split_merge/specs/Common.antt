-- The words of this crate that others cite most, passed on from one place. Declares nothing.
pub use Rattle.split_merge.specs.Conditions.{early_refusals, only_outer, outline_refusals, pair_refusals, path_refusals}
pub use Rattle.split_merge.specs.Conditions.{place_refusals}
pub use Rattle.split_merge.specs.Untested.{comes_before_pairs}
