use Rattle.json_spans.specs.Common.{node}
use Rattle.grid_reader.specs.Common.{arcs_seen}
use Rattle.grid_reader.proofs.NearAll.{all_near}
use Rattle.grid_reader.proofs.reading.opened.Goals as goal

pub opened_on-requires-clause-near : goal.opened_on-requires-clause-near
opened_on-requires-clause-near g c = rw c.as_slice.ensures.value (all_near c.args.wants c.is_some-delta.result (node c.in-Ok.value.arcs) (arcs_seen c.in-Ok-fine_arcs.value.items) c.in-Ok-fine_arcs.ensures)
