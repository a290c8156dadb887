use Rattle.kit_words.proofs.Common.{◌≢◌, Contains, take}
use Rattle.arc_tables.specs.Common.{Edge, edges, users_of}
use Rattle.feature_exchange.proofs.taking.all_used.Given as goal

-- each of the edges so far
abbrev pub invariant-loop-at : goal.invariant-loop-at
invariant-loop-at g l = (e : Edge) → Contains (take l.at (edges l.keys)) e → users_of l.borders e.0 e.1 ≢ 0
