use Rattle.kit_words.proofs.Common.{ap, ◌∙◌, arith}
use Rattle.json_spans.specs.Common.{node}
use Rattle.grid_reader.specs.Common.{view_on_grid}
use Rattle.grid_reader.proofs.Opened.{gives_reading, gives_walks}
use Rattle.grid_reader.proofs.reading.read_on_grid.Goals as goal

pub returns-clause-reads : goal.returns-clause-reads
returns-clause-reads g c = gives_reading c.args.wants view_on_grid c.args.bytes.now c.opened.result (node c.span.result) (ap node c.span.ensures ∙ c.in_ok-root.ensures.span) (omega (arith, c.if-bytes-gt-MAX_BYTES.false)) c.in_ok-root.ensures.json c.opened.ensures.value

pub returns-clause-of_walks : goal.returns-clause-of_walks
returns-clause-of_walks g c = gives_walks c.args.wants view_on_grid c.args.bytes.now c.opened.result (node c.span.result) (ap node c.span.ensures ∙ c.in_ok-root.ensures.span) (omega (arith, c.if-bytes-gt-MAX_BYTES.false)) c.in_ok-root.ensures.json c.opened.ensures.value
