use Rattle.kit_words.proofs.Common.{◌≡◌, ◌+◌, ap, ◌∙◌, sym, get_or}
use Rattle.std.proofs.lemmas.List.Sums.{count_by_more_no, count_by_more_yes}
use Rattle.layer_faces.specs.declared.face.Face.{Face}
use Rattle.layer_faces.specs.Faces.{is_outside}
use Rattle.layer_faces.proofs.faces.test_outside.Goals as goal
use Rattle.layer_faces.proofs.faces.test_outside.Goals.{then-is_outside, else-is_outside}

pub loop-face-preserved : goal.loop-face-preserved
loop-face-preserved g c =
    let faces = c.args.faces.now in
    let i = c.loop-face.face-index in
    let f = c.face-item.result in
    let here : is_outside (get_or faces i f).kind ≡ c.is_outside.result = ap (λ (x : Face _). is_outside x.kind) (sym c.face-item.is) ∙ sym c.is_outside.ensures in
    record {
      counted = elim c.if-is_outside.branch [
        | then-is_outside w ↦
            w.outsides-is ∙ ap (λ n. n + 1) c.loop-face.invariant.counted
            ∙ sym (count_by_more_yes (λ (x : Face _). is_outside x.kind) faces i f c.loop-face-test.true (here ∙ w.if-is_outside.true))
        | else-is_outside w ↦
            w.outsides-is ∙ c.loop-face.invariant.counted
            ∙ sym (count_by_more_no (λ (x : Face _). is_outside x.kind) faces i f c.loop-face-test.true (here ∙ w.if-is_outside.false))
      ];
      few = c.if-outsides-gt1.false;
    }
