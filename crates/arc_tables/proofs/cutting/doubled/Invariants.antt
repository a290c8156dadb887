use Rattle.kit_words.proofs.Common.{◌≡◌, take, flat_map}
use Rattle.arc_tables.specs.Common.{both_parts}
use Rattle.arc_tables.proofs.cutting.doubled.Given as goal

abbrev pub invariant-loop-u : goal.invariant-loop-u
invariant-loop-u g l = l.more.items ≡ flat_map (both_parts l.i l.n) (take l.u-index l.uses)
