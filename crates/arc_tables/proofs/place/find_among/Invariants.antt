use Rattle.kit_words.proofs.Common.{ℕ, ◌≡◌, take, Contains}
use Rattle.slab.specs.Slab.{get}
use Rattle.arc_tables.specs.Common.{times, links, path_in}
use Rattle.arc_tables.proofs.place.find_among.Given as goal

abbrev pub invariant-loop-arc : goal.invariant-loop-arc
invariant-loop-arc g l = (j : ℕ) → Contains (take l.arc-index l.among) j → times l.a l.b (links (path_in (get l.arcs j))) ≡ 0
