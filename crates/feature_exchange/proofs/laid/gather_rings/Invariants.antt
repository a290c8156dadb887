use Rattle.kit_words.proofs.Common.{◌≡◌, take, map, Some}
use Rattle.std.specs.FinMap as table
use Rattle.arc_tables.specs.Common.{edges}
use Rattle.feature_exchange.specs.Common.{numbers_of}
use Rattle.feature_exchange.proofs.laid.gather_rings.Given as goal

-- the rings so far
abbrev pub invariant-loop-number : goal.invariant-loop-number
invariant-loop-number g l = record {
  numbers : numbers_of l.laid.items ≡ take l.number-index l.numbers;
  along : map (λ y. table.get l.borders y.number) l.laid.items ≡ map (λ y. Some (edges y.keys.items)) l.laid.items;
}
