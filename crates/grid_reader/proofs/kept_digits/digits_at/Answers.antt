use Rattle.json_spans.specs.Common.{node}
use Rattle.grid_reader.specs.Common.{arcs_seen}
use Rattle.grid_reader.proofs.NearAll.{all_near}
use Rattle.grid_reader.proofs.kept_digits.digits_at.Goals as goal

pub digits_kept-requires-clause-near : goal.digits_kept-requires-clause-near
digits_kept-requires-clause-near g c = rw c.as_slice.ensures.value (all_near c.args.wants c.is_some.result (node c.args.outline.arcs) (arcs_seen c.in-Ok.fine.items) c.in-Ok.ensures)
