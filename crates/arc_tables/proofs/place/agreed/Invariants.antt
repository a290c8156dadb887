use Rattle.kit_words.proofs.Common.{◌≡◌, take, ◌≤◌, length, ◌-◌}
use Rattle.arc_tables.proofs.place.agreed.Given as goal

abbrev pub invariant-loop-len : goal.invariant-loop-len
invariant-loop-len l = record {
  xs : l.len ≤ length l.xs;
  ys : l.len ≤ length l.ys;
  same : take l.len l.xs ≡ take l.len l.ys;
}

abbrev pub decreases-loop-len : goal.decreases-loop-len
decreases-loop-len l = length l.xs - l.len
