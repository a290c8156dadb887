use Rattle.kit_words.proofs.Common.{◌≡◌, map, take}
use Rattle.cover_report.specs.Counted.{uneven_of}
use Rattle.cover_report.specs.Layers.{view_looked}
use Rattle.cover_report.proofs.told.all_uneven.Given as goal

abbrev pub invariant-loop-looked : goal.invariant-loop-looked
invariant-loop-looked g l = l.found.items ≡ uneven_of (map view_looked (take l.looked-index l.looks))
