use Rattle.kit_words.proofs.Common.{◌<◌, length, sym, ap, ◌∙◌, arith, get_or_default}
use Rattle.ring_machine.proofs.Common.{position_eq-true}
use Rattle.layer_sides.proofs.Seeing.{noted}
use Rattle.layer_sides.proofs.vertices.note.Goals as goal

pub returns-then-eq : goal.returns-then-eq
returns-then-eq g c =
    let vs = c.args.vertices.now.items in
    let k = c.args.vertex in
    let within : k < length vs = omega (arith, c.if-vertex-len.true, c.len.ensures, c.args.vertices.now.ok.0) in
    let same = c.index_mut.ensures.value ∙ get_or_default vs k c.index_mut.result.now c.index.result.now within ∙ sym c.index.ensures in
    noted vs k c.index_mut.result.now c.args.place c.args.at c.push.new.self within c.index_mut.ensures.value
    (ap (λ v. v.at) same ∙ position_eq-true c.index.result.now.at c.args.at (sym c.eq.ensures ∙ c.if-eq.true))
    c.in_ok-push.ensures.items
