use Rattle.kit_words.proofs.Common.{◌≡◌, ◌++◌, ◌∙◌, sym, ap, map, to_z, of_z, w64, rules, to_z-of_z}
use Rattle.map_text.specs.Common.{commas, pair_text}
use Rattle.script_runner.proofs.ListLemmas.{left_text, left_done, pair_step}
use Rattle.script_runner.proofs.ring_lists.push_positions.Goals as goal

pub loop-position-preserved : goal.loop-position-preserved
loop-position-preserved g c =
    let x : to_z w64 (of_z w64 c.x.result) ≡ c.x.result = search (rules, to_z-of_z) in
    let y : to_z w64 (of_z w64 c.y.result) ≡ c.y.result = search (rules, to_z-of_z) in
    pair_step c.loop-position.more c.in-Some.position (to_z w64 (of_z w64 c.x.result)) (to_z w64 (of_z w64 c.y.result)) c.next.new.self
    c.loop-position.text.items c.push_comma.new.text.items c.push_pair.new.text.items (x ∙ c.x.ensures.value) (y ∙ c.y.ensures.value) c.in_ok-push_comma.ensures c.in_ok-push_pair.ensures
    ∙ ap (λ ps. c.loop-position.text.items ++ left_text c.loop-position.more (map pair_text ps)) (sym c.in-Some.ensures.steps)
    ∙ c.loop-position.invariant

pub returns : goal.returns
returns g c =
    sym (left_done c.loop-position.more c.loop-position.text.items)
    ∙ ap (λ ps. c.loop-position.text.items ++ left_text c.loop-position.more (map pair_text ps)) (sym c.in-None.ensures.steps.0)
    ∙ c.loop-position.invariant
    ∙ ap (λ ps. c.args.text.now.items ++ commas (map pair_text ps)) c.into_iter-position-iterator.ensures.into_iter_gives
