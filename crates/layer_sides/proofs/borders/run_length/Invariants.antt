use Rattle.kit_words.proofs.Common.{◌≡◌, ◌<◌, ℕ, get_or}
use Rattle.layer_sides.specs.declared.standing.Standing.{Standing}
use Rattle.layer_sides.proofs.borders.run_length.Given as goal

-- those so far are of the segment
abbrev pub invariant-loop-i : goal.invariant-loop-i
invariant-loop-i l = (k : ℕ) (x : Standing) → k < l.i → (get_or l.rest k x).segment ≡ l.segment
