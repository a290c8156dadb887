use Rattle.kit_words.proofs.Common.{◌≡◌, ◌≤◌, take}
use Rattle.arc_tables.specs.Common.{times, links}
use Rattle.arc_tables.proofs.place.place_in.Given as goal

-- from the first on, none of the edges so far is of the segment
abbrev pub invariant-loop-at : goal.invariant-loop-at
invariant-loop-at l = l.fn.ends.start ≤ 1 → times l.a l.b (links (take l.at l.path)) ≡ 0
