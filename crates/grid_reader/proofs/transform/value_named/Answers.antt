use Rattle.kit_words.proofs.Common.{◌≡◌, ap, sym, ◌∙◌, Option, Result, Ok}
use Rattle.json_spans.specs.Common.{decoded, node, Node, nodes}
use Rattle.topo_outline.specs.Common.{Fault}
use Rattle.topo_reader.proofs.Common.{ok_same}
use Rattle.grid_reader.proofs.Naming.{found, passed, ended}
use Rattle.decimal_texts.specs.Geometries.{is_string_of}
use Rattle.grid_reader.proofs.transform.value_named.Goals as goal

pub returns-then-value : goal.returns-then-value
returns-then-value c =
    let is : is_string_of c.args.name.now (decoded (node c.in-Some.member.0).bytes) ≡ c.in-Ok.value = ok_same _ _ c.in-Ok.ensures in
    ap (λ (o : Option Node). let r : Result (Option Node) Fault = Ok o in r) (sym (found c.args.name.now (nodes c.in-Some.member) _ _ _ c.in-Some.ensures.steps (is ∙ c.if-value.true) c.loop-member.invariant))

pub loop-member-preserved : goal.loop-member-preserved
loop-member-preserved c =
    let is : is_string_of c.args.name.now (decoded (node c.in-Some.member.0).bytes) ≡ c.in-Ok.value = ok_same _ _ c.in-Ok.ensures in
    passed c.args.name.now (nodes c.in-Some.member) _ _ _ c.in-Some.ensures.steps (is ∙ c.if-value.false) c.loop-member.invariant

pub returns : goal.returns
returns c = ap (λ (o : Option Node). let r : Result (Option Node) Fault = Ok o in r) (sym (ended c.args.name.now _ _ c.in-None.ensures.steps.0 c.loop-member.invariant))
