use Rattle.kit_words.proofs.Common.{◌++◌, ◌∷◌, [], sym, ap, ◌∙◌, drop_all}
use Rattle.place_text.proofs.Ways.{rest_text, begin_is, step_is, end_is, whole_way}
use Rattle.place_text.proofs.objects.push_way.Goals as goal

pub loop-to-init : goal.loop-to-init
loop-to-init g c =
    begin_is c.args.delta c.path.inside.0.0.lo (c.as_slice-inner.result.now ++ c.path.inside.0.0.hi ∷ []) c.args.text.now.items
    c.extend_from_slice.new.self.items c.push_position.new.text.items c.in_ok-extend_from_slice.ensures.items c.in_ok-push_position.ensures

pub loop-to-preserved : goal.loop-to-preserved
loop-to-preserved g c =
    step_is c.args.delta c.loop-to.from c.to-item.result c.as_slice-inner.result.now c.path.inside.0.0.hi c.loop-to.to-index _ c.loop-to.text.items
    c.extend_from_slice-in-loop-to.new.self.items c.push_behind.new.text.items c.loop-to-test.true c.to-item.is
    c.loop-to.invariant c.in_ok-extend_from_slice-2.ensures.items c.in_ok-push_behind.ensures

pub returns : goal.returns
returns g c =
    let inner = c.as_slice-inner.result.now in
    let end = c.path.inside.0.0.hi in
    end_is c.args.delta c.loop-to.from end c.loop-to.text.items c.extend_from_slice-2.new.self.items c.push_behind-2.new.text.items c.extend_from_slice-3.new.self.items
    c.in_ok-extend_from_slice-3.ensures.items c.in_ok-push_behind-2.ensures c.in_ok-extend_from_slice-4.ensures.items
    ∙ ap (λ z. c.loop-to.text.items ++ rest_text c.args.delta c.loop-to.from (z ++ end ∷ [])) (sym (drop_all c.loop-to.to-index inner c.loop-to-test.false))
    ∙ c.loop-to.invariant
    ∙ whole_way c.args.delta _ c.args.path.now inner c.args.text.now.items c.path.view_is c.as_slice-inner.ensures.value
