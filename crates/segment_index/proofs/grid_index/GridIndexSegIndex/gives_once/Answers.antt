use Rattle.segment_index.proofs.Sharing.{ordered, without_cells}
use Rattle.segment_index.proofs.grid_index.GridIndexSegIndex.gives_once.Goals as goal

pub returns-clause-no_less : goal.returns-clause-no_less
returns-clause-no_less g c = λ s t.
    rw (← c.self.view_is) (without_cells c.self.inside.frame c.self.invariant.frame t _ (ordered s.lo.x s.hi.x) (ordered s.lo.y s.hi.y))
