use Rattle.kit_words.proofs.Common.{◌≡◌, ◌+◌, drop, map, sym, ap, ap₂, ◌∙◌, arith, ℕ, max, to_z-of_z}
use Rattle.decimal_texts.specs.Common.{decimals}
use Rattle.grid_reader.specs.Common.{greater, greatest_from, fine_seen}
use Rattle.grid_reader.proofs.Greatest.{step}
use Rattle.grid_reader.proofs.Reach.{near_fits}
use Rattle.grid_reader.proofs.grid.most_in_arc.Goals as goal
use mir.Syntax.{w128}
use mir.Val.{SFits}

max_is : (a b : ℕ) → max a b ≡ greater a b
max_is a b = grind arith

pub loop-pos-preserved : goal.loop-pos-preserved
loop-pos-preserved c =
    let across : SFits w128 c.pos-item.result.x = near_fits c.pos-item.result.x c.pos-item.result.across in
    let upward : SFits w128 c.pos-item.result.y = near_fits c.pos-item.result.y c.pos-item.result.upward in
    let x : c.decimals.result ≡ decimals c.pos-item.result.x = simp to_z-of_z at c.decimals.ensures.value in
    let y : c.decimals-in-loop-pos.result ≡ decimals c.pos-item.result.y = simp to_z-of_z at c.decimals-in-loop-pos.ensures.value in
    let is : c.max-most.result ≡ greater (greater c.loop-pos.most (decimals c.pos-item.result.x)) (decimals c.pos-item.result.y) =
    c.max-most.ensures ∙ (max_is _ _ ∙ ap₂ greater (c.max.ensures ∙ (max_is _ _ ∙ ap (λ (n : ℕ). greater c.loop-pos.most n) x)) y) in
    ap (λ (n : ℕ). greatest_from decimals n (map fine_seen (drop (c.loop-pos.pos-index + 1) c.args.arc.now))) is
    ∙ (sym (step decimals c.loop-pos.most c.args.arc.now c.loop-pos.pos-index c.pos-item.result (omega arith) c.pos-item.is) ∙ c.loop-pos.invariant)
