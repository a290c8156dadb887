use Rattle.kit_words.proofs.Common.{◌≡◌, ◌≤◌, length}
use Rattle.map_features.specs.Values.{cut_end}
use Rattle.map_features.proofs.values.cut_end.Given as goal

-- the text is cut here or before
abbrev pub invariant-loop-end : goal.invariant-loop-end
invariant-loop-end l = record {
  value : cut_end l.words l.end ≡ cut_end l.words l.fn.most;
  within : l.end ≤ length l.words;
}

abbrev pub decreases-loop-end : goal.decreases-loop-end
decreases-loop-end l = l.end
