use Rattle.kit_words.proofs.Common.{◌∙◌, ℕ, ap, arith, cond, is_some, refl, sym}
use Rattle.topo_outline.specs.Common.{leaf_of, view_item}
use Rattle.topo_outline.specs.Layers.{leaves_in}
use Rattle.cover_report.proofs.Counted.{leaves_more}
use Rattle.cover_report.proofs.layers.leaf_count.Goals as goal
use Rattle.cover_report.proofs.layers.leaf_count.Goals.{then-is_leaf, else-is_leaf}

pub loop-item-init : goal.loop-item-init
unfolding leaves_in
loop-item-init g c = record { value = refl; bound = omega arith }

pub loop-item-preserved : goal.loop-item-preserved
loop-item-preserved g c =
    let item = c.item-item.result in
    let more = leaves_more c.args.items.now c.loop-item.item-index item c.loop-item-test.true in
    let same = ap (λ y. is_some (leaf_of (view_item y))) (sym c.item-item.is) ∙ sym c.is_leaf.ensures in
    elim c.if-is_leaf.branch [
      | then-is_leaf w ↦
          (let one = ap {B = ℕ} (λ b. cond b 1 0) (same ∙ w.if-is_leaf.true) in
          record { value = omega (arith, more, one, w.count-is, c.loop-item.invariant.value); bound = omega (arith, w.count-is) })
      | else-is_leaf w ↦
          (let one = ap {B = ℕ} (λ b. cond b 1 0) (same ∙ w.if-is_leaf.false) in
          record { value = omega (arith, more, one, w.count-is, c.loop-item.invariant.value); bound = omega (arith, w.count-is) })
    ]
