use Rattle.json_spans.specs.Common.{node}
use Rattle.topo_outline.proofs.Promised as promised
use Rattle.topo_outline.proofs.shape.read_outline.Goals as goal

pub returns-clause-opened : goal.returns-clause-opened
returns-clause-opened g c = promised.opened (node c.args.root) c.topology.result c.topology.ensures.shape

pub returns-clause-few : goal.returns-clause-few
returns-clause-few g c = promised.few_features (node c.args.root) c.topology.result c.topology.ensures.shape

pub returns-clause-refused : goal.returns-clause-refused
returns-clause-refused g c = promised.refused (node c.args.root) c.topology.result c.topology.ensures.shape
