use Rattle.json_spans.specs.Common.{node}
use Rattle.geo_topology.proofs.Texts.{whole_text}
use Rattle.geo_topology.proofs.LyingParts.{copies}
use Rattle.geo_topology.proofs.step.topology_text.Goals as goal

pub returns-clause-text : goal.returns-clause-text
returns-clause-text g c = whole_text c.args.object (node c.args.root) _ _ _ c.in-Ok.ensures c.in_ok-made.ensures (rw c.as_slice.ensures.value at c.in_ok-put_all.ensures)

pub returns-clause-copies : goal.returns-clause-copies
returns-clause-copies g c file lies = copies file c.args.object (node c.args.root) _ lies (whole_text c.args.object (node c.args.root) _ _ _ c.in-Ok.ensures c.in_ok-made.ensures (rw c.as_slice.ensures.value at c.in_ok-put_all.ensures))
