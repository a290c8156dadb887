use Rattle.kit_words.proofs.Common.{Contains, inl, inr, subst, sym}
use Rattle.std.proofs.Common.{take_all}
use Rattle.arc_tables.specs.Common.{stand_at}
use Rattle.arc_tables.proofs.StoreLemmas.{taken_item}
use Rattle.arc_tables.proofs.Writes.{listed_now}
use Rattle.arc_tables.proofs.standing.note.Goals as goal

pub loop-k-preserved : goal.loop-k-preserved
loop-k-preserved g c = record {
  kept = λ j m x. c.list_arc.ensures.kept j m (c.loop-k.invariant.kept j m x);
  noted = λ k m. elim (taken_item c.args.keys.now c.loop-k.k-index k c.k-item.result c.loop-k-test.true c.k-item.is m) [
    | inl y ↦ c.list_arc.ensures.kept k c.args.n (c.loop-k.invariant.noted k y)
    | inr y ↦ subst (λ z. Contains (stand_at c.list_arc.new.stands.items z) c.args.n) y (listed_now c.loop-k.stands.items c.list_arc.new.stands.items _ c.args.n c.in_ok-list_arc.ensures.listed)
  ];
}

pub returns-clause-noted : goal.returns-clause-noted
returns-clause-noted g c = λ k m. c.loop-k.invariant.noted k (subst (λ z. Contains z k) (sym (take_all c.loop-k.k-index c.args.keys.now c.loop-k-test.false)) m)
