use Rattle.kit_words.proofs.Common.{◌≤◌, List, length, take}
use Rattle.vertex_index.specs.Common.{Placement}
use Rattle.ring_store.specs.Common.{Removal, AreKeyed}
use Rattle.ring_store.proofs.PuttingBack.{WerePlaced}
use Rattle.ring_store.proofs.changes.forget_all.Given as goal

-- so many are still placed
abbrev pub invariant-loop-left : goal.invariant-loop-left
invariant-loop-left g l = record {
  within : l.left ≤ length l.puts;
  placed : (places : Placement) (rs : List Removal) → AreKeyed places rs l.puts l.fn.vertices
      → WerePlaced places (take l.left l.puts) l.vertices;
}

abbrev pub decreases-loop-left : goal.decreases-loop-left
decreases-loop-left g l = l.left
