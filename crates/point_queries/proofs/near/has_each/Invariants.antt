use Rattle.kit_words.proofs.Common.{Contains, take}
use Rattle.map_frame.specs.declared.names.RingName.{RingName}
use Rattle.point_queries.proofs.near.has_each.Given as goal

-- each so far
abbrev pub invariant-loop-name : goal.invariant-loop-name
invariant-loop-name l = (name : RingName) → Contains (take l.name-index l.names) name → Contains l.others name
