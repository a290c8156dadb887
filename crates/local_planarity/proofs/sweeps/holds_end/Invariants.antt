use Rattle.kit_words.proofs.Common.{◌≡◌, take, false, not, ◌&&◌, ◌||◌, list_any}
use Rattle.grid_geometry.specs.Common.{is_held}
use Rattle.ring_machine.specs.Ring as machine
use Rattle.local_planarity.proofs.sweeps.holds_end.Given as goal

-- none so far
abbrev pub invariant-loop-t : goal.invariant-loop-t
invariant-loop-t l =
    list_any (λ t. (not (machine.has l.these t.lo) && is_held t.lo l.a l.b l.c)
    || (not (machine.has l.these t.hi) && is_held t.hi l.a l.b l.c)) (take l.t-index l.segments) ≡ false
