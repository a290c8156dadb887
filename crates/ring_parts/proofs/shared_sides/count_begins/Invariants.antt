use Rattle.kit_words.proofs.Common.{◌≡◌, ◌+◌, ◌≤◌, drop}
use Rattle.ring_parts.specs.Common.{begins}
use Rattle.ring_parts.proofs.Counted.{left_begins}
use Rattle.ring_parts.proofs.shared_sides.count_begins.Given as goal

-- those so far and those that are left are all
abbrev pub invariant-loop-one : goal.invariant-loop-one
invariant-loop-one l = record {
  few : l.count ≤ l.one-index;
  whole : l.count + left_begins l.before (drop l.one-index l.rest) l.first ≡ begins l.common;
}
