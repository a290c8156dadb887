use Rattle.kit_words.proofs.Common.{take}
use Rattle.walk_faults.specs.Common.{features_seen}
use Rattle.place_text.specs.Common.{TellsAll}
use Rattle.place_text.proofs.tables.tell_all.Given as goal

-- the features so far are reported
abbrev pub invariant-loop-feature : goal.invariant-loop-feature
invariant-loop-feature g l = TellsAll (features_seen (take l.feature l.walks)) l.fn.tables l.tables
