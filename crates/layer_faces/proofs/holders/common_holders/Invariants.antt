use Rattle.kit_words.proofs.Common.{◌≡◌, take, All}
use Rattle.layer_sides.specs.Seen.{borders_seen}
use Rattle.layer_faces.specs.Kept.{held_at}
use Rattle.layer_faces.proofs.holders.common_holders.Given as goal

-- the sides so far are held by these
abbrev pub invariant-loop-side : goal.invariant-loop-side
invariant-loop-side g l = All (λ a. held_at (borders_seen l.borders) a ≡ l.holders.items) (take l.side-index l.sides)
