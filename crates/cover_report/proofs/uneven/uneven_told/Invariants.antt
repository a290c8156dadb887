use Rattle.kit_words.proofs.Common.{◌≡◌, map, take}
use Rattle.cover_report.specs.Uneven.{uneven_told}
use Rattle.cover_report.proofs.uneven.uneven_told.Given as goal

abbrev pub invariant-loop-it : goal.invariant-loop-it
invariant-loop-it g l = l.found.items ≡ map (uneven_told l.fn.owners l.fn.numbers) (take l.it-index l.uneven)
