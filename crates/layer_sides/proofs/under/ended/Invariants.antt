use Rattle.kit_words.proofs.Common.{◌≡◌, take, All}
use Rattle.layer_sides.specs.Common.{top}
use Rattle.layer_sides.specs.Seen.{segments_seen}
use Rattle.layer_sides.specs.Under.{segment_at}
use Rattle.layer_sides.proofs.under.ended.Given as goal

-- all those so far end at v
abbrev pub invariant-loop-count : goal.invariant-loop-count
invariant-loop-count g l = All (λ i. top (segment_at (segments_seen l.borders) i) ≡ l.v) (take l.count l.list)
