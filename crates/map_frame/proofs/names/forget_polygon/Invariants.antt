use Rattle.kit_words.proofs.Common.{◌≡◌, ℕ, ◌<◌, length, Some, slice_get}
use Rattle.map_frame.specs.Common.{Loss}
use Rattle.map_frame.proofs.names.forget_polygon.Given as goal

-- the rings so far have no names
abbrev pub invariant-loop-r : goal.invariant-loop-r
invariant-loop-r g l = record {
  lost : Loss l.fn.names.items l.names.items (λ r. (i : ℕ) × (slice_get l.rings i ≡ Some r) × (i < l.r-index));
  len : length l.names.items ≡ length l.fn.names.items;
}
