use Rattle.kit_words.proofs.Common.{◌≡◌, ◌≤◌, ◌*◌, ◌+◌, ◌+ℤ◌, unsigned_abs, [], ◌∷◌, ◌++◌, length}
use Rattle.grid_geometry.specs.Common.{links, total_area}
use Rattle.point_queries.proofs.area.ring_area.Given as goal

-- the sum so far and that of the rest are the whole sum, and the sum so far is bounded
abbrev pub invariant-loop-to : goal.invariant-loop-to
invariant-loop-to g l = record {
  whole : l.sum +ℤ total_area (links (l.from ∷ l.to-iterator ++ l.first ∷ [])) ≡ total_area (links (l.first ∷ l.initial.to-iterator ++ l.first ∷ []));
  bound : unsigned_abs l.sum + 2000000000000000000000000 * length l.to-iterator ≤ 2000000000000000000000000 * length l.initial.to-iterator;
}
