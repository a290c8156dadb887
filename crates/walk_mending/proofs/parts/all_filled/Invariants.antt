use Rattle.kit_words.proofs.Common.{◌≡◌, true, take, list_all}
use Rattle.walk_mending.proofs.Parting.{is_filled}
use Rattle.ring_parts.specs.Common.{polygons_seen}
use Rattle.walk_mending.proofs.parts.all_filled.Given as goal

-- all so far
abbrev pub invariant-loop-part : goal.invariant-loop-part
invariant-loop-part g l = list_all is_filled (polygons_seen (take l.part-index l.parts)) ≡ true
