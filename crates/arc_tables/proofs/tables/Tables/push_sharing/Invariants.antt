use Rattle.kit_words.proofs.Common.{◌≡◌, ◌++◌, take}
use Rattle.arc_tables.proofs.SharingLemmas.{sharers}
use Rattle.arc_tables.proofs.tables.Tables.push_sharing.Given as goal

-- the rings of the arcs so far
abbrev pub invariant-loop-u : goal.invariant-loop-u
invariant-loop-u g l = l.out.items ≡ l.fn.out.items ++ sharers l.self.arcs (take l.u-index l.u-items)
