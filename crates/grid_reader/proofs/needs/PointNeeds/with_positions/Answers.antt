use Rattle.decimal_texts.specs.Common.{first_two}
use Rattle.grid_reader.proofs.Needing.{front, ended}
use Rattle.grid_reader.proofs.needs.PointNeeds.with_positions.Goals as goal

pub loop-position-preserved : goal.loop-position-preserved
loop-position-preserved c =
    rw c.with_position-needs.ensures (front first_two c.loop-position.needs _ _ _ _ c.in-Some.ensures.steps c.loop-position.invariant)

pub returns : goal.returns
returns c = ended first_two c.loop-position.needs _ _ c.in-None.ensures.steps.0 c.loop-position.invariant
