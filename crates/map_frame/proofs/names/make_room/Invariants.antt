use Rattle.kit_words.proofs.Common.{◌≡◌, ℕ, ◌<◌, ◌≤◌, length, Some, slice_get}
use Rattle.map_frame.specs.Common.{SameNames}
use Rattle.map_frame.proofs.names.make_room.Given as goal

-- there is room for the rings so far
abbrev pub invariant-loop-r : goal.invariant-loop-r
invariant-loop-r g l = record {
  same : SameNames l.fn.names.items l.names.items;
  longer : length l.fn.names.items ≤ length l.names.items;
  room : (r i : ℕ) → slice_get l.rings i ≡ Some r → i < l.r-index → r < length l.names.items;
}
