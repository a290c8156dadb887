use Rattle.feature_exchange.proofs.EachExchanged.{Halfway}
use Rattle.feature_exchange.proofs.exchanging.exchange_each.Given as goal

-- so many are left
abbrev pub invariant-loop-left : goal.invariant-loop-left
invariant-loop-left g l =
    Halfway l.fn.frame l.fn.changes l.fn.polygons.items l.fn.numbers.items l.frame l.changes l.polygons.items l.numbers.items l.left

abbrev pub decreases-loop-left : goal.decreases-loop-left
decreases-loop-left g l = l.left
