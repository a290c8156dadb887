use Rattle.kit_words.proofs.Common.{◌≡◌, length, sym, ◌∙◌}
use Rattle.std.proofs.lemmas.Bool.{eqb-true}
use Rattle.json_spans.specs.Common.{node}
use Rattle.topo_reader.specs.Common.{PlainArc}
use Rattle.topo_reader.proofs.PlainArcs.{whole_reads}
use Rattle.topo_reader.proofs.plain_arc.plain_arc.Goals as goal

pub returns-in-Some : goal.returns-in-Some
returns-in-Some g c =
    let zero : length c.in-Some.rest.now ≡ 0 = eqb-true (length c.in-Some.rest.now) 0 (sym c.is_empty.ensures ∙ c.if-is_empty.true) in
    let front : PlainArc c.args.delta c.bytes.result.now c.in-Some.found.items c.in-Some.rest.now = rw (c.in-Some.is) at c.in_ok-rest.ensures in
    whole_reads c.args.delta (node c.args.span) c.bytes.result.now c.in-Some.found.items c.in-Some.rest.now c.bytes.ensures zero front
