use Rattle.json_spans.specs.Common.{opens}
use Rattle.json_spans.proofs.Nested.{counted}
use Rattle.json_spans.proofs.blocks.opened.Goals as goal

pub returns : goal.returns
returns c = counted opens c.args.v c.args.len _ c.requires c.openings.ensures
