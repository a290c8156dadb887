use Rattle.kit_words.proofs.Common.{ap, ◌∙◌, arith}
use Rattle.json_spans.specs.Common.{node}
use Rattle.topo_reader.specs.Common.{view_raw, Walks}
use Rattle.topo_reader.proofs.MeaningOfText.{gives_opened, gives_read, gives_unread}
use Rattle.topo_reader.proofs.OfRings.{answers_of_walks}
use Rattle.topo_reader.proofs.OneReading.{gives_only}
use Rattle.topo_reader.proofs.reading.read_walks.Goals as goal

pub returns-clause-opened : goal.returns-clause-opened
returns-clause-opened g c = gives_opened Walks view_raw c.args.bytes.now c.opened.result (node c.span.result) (ap node c.span.ensures ∙ c.in_ok-scan.ensures.span) (omega (arith, c.if-bytes-gt-MAX_BYTES.false)) c.in_ok-scan.ensures.json c.opened.ensures

pub returns-clause-of_walks : goal.returns-clause-of_walks
returns-clause-of_walks g c = answers_of_walks view_raw c.args.bytes.now c.opened.result (returns-clause-opened g c)

pub returns-clause-reads : goal.returns-clause-reads
returns-clause-reads g c = gives_read Walks view_raw c.args.bytes.now c.opened.result (returns-clause-opened g c)

pub returns-clause-unread : goal.returns-clause-unread
returns-clause-unread g c = gives_unread Walks view_raw c.args.bytes.now c.opened.result (node c.span.result) (ap node c.span.ensures ∙ c.in_ok-scan.ensures.span) c.opened.ensures

pub returns-clause-only : goal.returns-clause-only
returns-clause-only g c = gives_only Walks view_raw c.args.bytes.now c.opened.result (returns-clause-reads g c)
