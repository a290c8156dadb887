use Rattle.kit_words.proofs.Common.{rules, arith, ◌≡◌, ◌+◌, ◌<◌, ◌++◌, [], ◌∷◌, sym, ap, ◌∙◌, subst, drop, length}
use Rattle.kit_words.proofs.Common.{drop_more}
use Rattle.std.proofs.Math.Facts.{to_z-of_z}
use Rattle.topo_writer.specs.Common.{all_found, indexes_found}
use Rattle.topo_writer.proofs.IndexWays.{index_step, Indexing}
use Rattle.topo_writer.proofs.arcs.Arcs.index_all.Goals as goal

pub loop-i-preserved : goal.loop-i-preserved
loop-i-preserved g c =
    let ps = c.args.ring.now in
    let i = c.loop-i.i in
    let l : i < length ps = omega arith in
    let p = c.piece.result.now in
    let left : drop i ps ≡ p ∷ drop (i + 1) ps =
    drop_more ps i p l ∙ ap (λ z. z ∷ drop (i + 1) ps) (sym c.piece.ensures) in
    let items : c.push.new.self.items ≡ c.loop-i.indexes.items ++ c.in_ok-index.index ∷ [] = search (rules, to_z-of_z) in
    record {
      rings = c.in_ok-index.ensures.rings ∙ c.loop-i.invariant.rings;
      delta = c.in_ok-index.ensures.delta ∙ c.loop-i.invariant.delta;
      few = omega (arith, c.loop-i.invariant.few, c.in_ok-index.ensures.few);
      indexing = λ arcs h f.
          subst (λ z. Indexing c.index.new.self z (drop (i + 1) ps) (all_found arcs ps) (indexes_found arcs ps)) (sym items)
          (index_step c.loop-i.self c.index.new.self c.loop-i.indexes.items p (drop (i + 1) ps) (all_found arcs ps) (indexes_found arcs ps) c.in_ok-index.index
          (subst (λ z. Indexing c.loop-i.self c.loop-i.indexes.items z (all_found arcs ps) (indexes_found arcs ps)) left
          (c.loop-i.invariant.indexing arcs h f))
          c.in_ok-index.ensures.arcs c.in_ok-index.ensures.index);
    }
