use Rattle.json_spans.specs.Common.{closes}
use Rattle.json_spans.proofs.Nested.{counted}
use Rattle.json_spans.proofs.blocks.closed.Goals as goal

pub returns : goal.returns
returns c = counted closes c.args.v c.args.len _ c.requires c.closings.ensures
