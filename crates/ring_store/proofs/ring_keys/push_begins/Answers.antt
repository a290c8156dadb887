use Rattle.kit_words.proofs.Common.{ap, sym, ◌∙◌, ◌++◌, ◌∷◌, [], append_assoc, arith, append-nil}
use Rattle.ring_store.proofs.ReadLemmas.{walked, walk_step}
use Rattle.ring_store.proofs.ring_keys.push_begins.Goals as goal

pub loop-at-init : goal.loop-at-init
loop-at-init g c = record {
  keys = c.in_ok-reserve.ensures.items ∙ sym (append-nil c.args.out.now.items);
  room = omega (arith, c.in_ok-reserve.ensures.ok);
}

pub loop-at-preserved : goal.loop-at-preserved
loop-at-preserved g c = record {
  keys = c.push_reserved.ensures.items
      ∙ ap (λ z. z ++ c.index-path-place_of.result ∷ []) c.loop-at.invariant.keys
      ∙ append_assoc c.args.out.now.items _ (c.index-path-place_of.result ∷ [])
      ∙ ap (λ z. c.args.out.now.items ++ z) (sym (walk_step c.args.back c.args.path.now c.loop-at.at c.place_of.result c.index-path-place_of.result c.loop-at.auto.at c.loop-at-test.true c.place_of.ensures c.index-path-place_of.is));
  room = omega (arith, c.loop-at.invariant.room, c.push_reserved.ensures.len, c.push_reserved.ensures.capacity);
}

pub returns : goal.returns
returns g c = c.loop-at.invariant.keys ∙ ap (λ z. c.args.out.now.items ++ z) (walked c.args.back c.args.path.now c.loop-at.at c.loop-at-test.false c.loop-at.auto.at-end c.loop-at.auto.at)
