use Rattle.kit_words.proofs.Common.{◌≡◌, take}
use Rattle.segment_sets.proofs.directory.copy_strips.Given as goal

abbrev pub invariant-loop-strip : goal.invariant-loop-strip
invariant-loop-strip g l = l.copied.items ≡ take l.strip-index l.strips.items
