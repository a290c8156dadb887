use Rattle.kit_words.proofs.Common.{◌≡◌, ◌+◌, ◌≤◌, unsigned_abs}
use Rattle.decimal_texts.specs.Common.{zeros_behind}
use Rattle.decimal_texts.proofs.fine.decimals.Given as goal

-- what is taken off so far and what can still be are all zeros after the number
abbrev pub invariant-loop-decimals : goal.invariant-loop-decimals
invariant-loop-decimals l = record {
  zeros : zeros_behind l.decimals l.left + 24 ≡ zeros_behind 24 (unsigned_abs l.units) + l.decimals;
  bound : l.decimals ≤ 24;
}

abbrev pub decreases-loop-decimals : goal.decreases-loop-decimals
decreases-loop-decimals l = l.decimals
