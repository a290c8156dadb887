use Rattle.kit_words.proofs.Common.{Contains, inl, inr, subst, sym}
use Rattle.std.proofs.Common.{take_all}
use Rattle.arc_tables.specs.Common.{stand_at}
use Rattle.arc_tables.proofs.StoreLemmas.{taken_cases}
use Rattle.arc_tables.proofs.Writes.{listed_now}
use Rattle.arc_tables.proofs.editing.list_arcs.Goals as goal

pub loop-i-preserved : goal.loop-i-preserved
loop-i-preserved g c = record {
  kept = λ j m x. c.list_arc.ensures.kept j m (c.loop-i.invariant.kept j m x);
  listed = λ i m. elim (taken_cases c.args.among.now c.loop-i.i-index i c.loop-i-test.true m) [
    | inl y ↦ c.list_arc.ensures.kept c.args.k i (c.loop-i.invariant.listed i y)
    | inr y ↦ subst (Contains (stand_at c.list_arc.new.stands.items c.args.k)) y (listed_now c.loop-i.stands.items c.list_arc.new.stands.items c.args.k _ c.in_ok-list_arc.ensures.listed)
  ];
}

pub returns-clause-listed : goal.returns-clause-listed
returns-clause-listed g c = λ i m. c.loop-i.invariant.listed i (subst (λ z. Contains z i) (sym (take_all c.loop-i.i-index c.args.among.now c.loop-i-test.false)) m)
