use Rattle.arc_store.proofs.NamedRings.{NamesSoFar}
use Rattle.arc_store.proofs.names.push_names.Given as goal

-- the names of the rings so far
abbrev pub invariant-loop-r : goal.invariant-loop-r
invariant-loop-r g l = NamesSoFar l.frame.doc l.numbers l.r-index l.fn.out.items l.out.items
