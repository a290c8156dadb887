use Rattle.topo_outline.specs.Common.{view_outline}
use Rattle.grid_reader.specs.Common.{arcs_seen}
use Rattle.grid_reader.proofs.Opened.{goes_well, fails_late}
use Rattle.grid_reader.proofs.reading.opened_on.Goals as goal

pub returns-clause-value : goal.returns-clause-value
returns-clause-value g c = goes_well c.args.wants (view_outline c.args.outline) (arcs_seen c.args.fine.now) c.digits_of-digits.result c.digits_of-digits.ensures.value _ c.in-Ok.ensures _ c.in-Ok-polygons.ensures

pub returns-in-Err-polygons-clause-value : goal.returns-in-Err-polygons-clause-value
returns-in-Err-polygons-clause-value g c = fails_late c.args.wants (view_outline c.args.outline) (arcs_seen c.args.fine.now) c.digits_of-digits.result c.digits_of-digits.ensures.value _ c.in-Ok.ensures c.in-Err-polygons.fault c.in-Err-polygons.ensures
