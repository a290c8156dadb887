use Rattle.kit_words.proofs.Common.{◌≡◌, ◌++◌, replicate}
use Rattle.cover_report.proofs.layers.push_owner.Given as goal

abbrev pub invariant-loop : goal.invariant-loop
invariant-loop g l = l.owners.items ≡ l.fn.owners.items ++ replicate l.counter l.number
