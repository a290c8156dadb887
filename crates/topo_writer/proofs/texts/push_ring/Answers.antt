use Rattle.kit_words.proofs.Common.{rules, arith, ◌≡◌, pos, refl, sym, ap, ◌∙◌, ◌++◌, get_or, map, to_z, of_z, w64}
use Rattle.kit_words.proofs.Common.{codes, signed_decimal, get_or_default, take_all}
use Rattle.std.proofs.Common.{append-nil}
use Rattle.std.proofs.Math.Facts.{to_z-of_z}
use Rattle.map_text.specs.Common.{commas}
use Rattle.topo_writer.proofs.Listed.{bracketed, items_step}
use Rattle.topo_writer.proofs.texts.push_ring.Goals as goal

pub loop-i-init : goal.loop-i-init
loop-i-init g c = c.in_ok-push.ensures.items ∙ sym (append-nil (c.args.text.now.items ++ codes "["))

pub loop-i-preserved : goal.loop-i-preserved
loop-i-preserved g c =
    let e : to_z w64 (of_z w64 (get_or c.args.indexes.now c.loop-i.i (pos 0))) ≡ get_or c.args.indexes.now c.loop-i.i (pos 0) = search (rules, to_z-of_z) in
    items_step signed_decimal c.args.indexes.now c.loop-i.i (get_or c.args.indexes.now c.loop-i.i (pos 0)) (omega arith)
    (get_or_default c.args.indexes.now c.loop-i.i _ _ (omega arith)) _ _ _ _ c.loop-i.invariant c.in_ok-push_comma.ensures
    (c.in_ok-push_number.ensures ∙ ap (λ z. c.push_comma.new.text.items ++ signed_decimal z) e)

pub returns : goal.returns
returns g c =
    let begun = c.args.text.now.items ++ codes "[" in
    bracketed c.args.text.now.items _ begun c.loop-i.text.items _ refl
    (c.loop-i.invariant ∙ ap (λ z. begun ++ commas (map signed_decimal z)) (take_all c.loop-i.i c.args.indexes.now (omega arith)))
    c.in_ok-push-2.ensures.items
