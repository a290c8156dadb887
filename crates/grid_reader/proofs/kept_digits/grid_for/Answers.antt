use Rattle.kit_words.proofs.Common.{ℕ, Option, ap}
use Rattle.grid_reader.specs.Common.{fine_arc, fine_position, fine_positions}
use Rattle.grid_reader.specs.declared.kept_digits.PointGrid.{PointGrid}
use Rattle.grid_reader.proofs.kept_digits.grid_for.Goals as goal

pub returns-clause-grid : goal.returns-clause-grid
unfolding fine_arc fine_position fine_positions
returns-clause-grid g c = ap (λ (d : Option ℕ). let p : PointGrid = record { needs = c.args.needs; digits = d } in p) c.in_ok-digits.ensures.digits
