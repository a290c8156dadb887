use Rattle.kit_words.proofs.Common.{rules, arith, ◌≡◌, pos, refl, sym, ap, ap₂, ◌∙◌, ◌++◌, ◌<◌, length, get_or, map}
use Rattle.kit_words.proofs.Common.{to_z, of_z, w64, codes, get_or_default, take_all}
use Rattle.std.proofs.Common.{append-nil}
use Rattle.std.proofs.Math.Facts.{to_z-of_z}
use Rattle.grid_geometry.specs.Common.{position}
use Rattle.map_text.specs.Common.{commas, pair_text, pairs}
use Rattle.topo_writer.proofs.Differences.{pairs-length}
use Rattle.topo_writer.proofs.Listed.{bracketed, items_step}
use Rattle.topo_writer.proofs.texts.push_arc.Goals as goal

pub loop-i-init : goal.loop-i-init
loop-i-init g c = c.in_ok-push.ensures.items ∙ sym (append-nil (c.args.text.now.items ++ codes "["))

pub loop-i-preserved : goal.loop-i-preserved
loop-i-preserved g c =
    let h : c.loop-i.i < length (pairs c.args.delta c.args.arc.now) = omega (arith, pairs-length c.args.delta c.args.arc.now) in
    let x : to_z w64 (of_z w64 c.pair_at-x.result.0) ≡ c.pair_at-x.result.0 = search (rules, to_z-of_z) in
    let y : to_z w64 (of_z w64 c.pair_at-x.result.1) ≡ c.pair_at-x.result.1 = search (rules, to_z-of_z) in
    items_step pair_text (pairs c.args.delta c.args.arc.now) c.loop-i.i (get_or (pairs c.args.delta c.args.arc.now) c.loop-i.i (position (pos 0) (pos 0))) h
    (get_or_default (pairs c.args.delta c.args.arc.now) c.loop-i.i _ _ h) _ _ _ _ c.loop-i.invariant c.in_ok-push_comma.ensures
    (c.in_ok-push_pair.ensures ∙ ap (λ z. c.push_comma.new.text.items ++ pair_text z) (ap₂ (λ a b. position a b) x y ∙ c.pair_at-x.ensures))

pub returns : goal.returns
returns g c =
    let begun = c.args.text.now.items ++ codes "[" in
    let all = take_all c.loop-i.i (pairs c.args.delta c.args.arc.now) (omega (arith, pairs-length c.args.delta c.args.arc.now)) in
    bracketed c.args.text.now.items _ begun c.loop-i.text.items _ refl
    (c.loop-i.invariant ∙ ap (λ z. begun ++ commas (map pair_text z)) all) c.in_ok-push-2.ensures.items
