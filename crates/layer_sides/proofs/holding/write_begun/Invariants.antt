use Rattle.kit_words.proofs.Common.{◌≤◌, ◌++◌, length, drop}
use Rattle.layer_sides.specs.Seen.{borders_seen}
use Rattle.layer_sides.specs.Under.{AreNumbered, AreOddOf, Rewrites, borders_at}
use Rattle.layer_sides.proofs.holding.write_begun.Given as goal

-- those from a place on have their numbers
abbrev pub invariant-loop-count : goal.invariant-loop-count
invariant-loop-count g l =
    (l.count ≤ length l.begun)
    × Rewrites l.begun (borders_seen l.fn.borders.items) (borders_seen l.borders.items)
    × AreNumbered (borders_at (borders_seen l.borders.items) (drop l.count l.begun ++ l.behind))
    × AreOddOf (borders_at (borders_seen l.borders.items) (drop l.count l.begun ++ l.behind)) l.numbers.items

abbrev pub decreases-loop-count : goal.decreases-loop-count
decreases-loop-count g l = l.count
