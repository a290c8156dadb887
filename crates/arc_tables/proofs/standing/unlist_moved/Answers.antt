use Rattle.kit_words.proofs.Common.{sym, ◌∙◌, subst}
use Rattle.arc_tables.specs.Common.{UnlistsOff}
use Rattle.arc_tables.proofs.StandLemmas.{unlists_off}
use Rattle.arc_tables.proofs.standing.unlist_moved.Goals as goal
use Rattle.arc_tables.proofs.standing.unlist_moved.Goals.{then-not-contains, else-not-contains}

pub loop-k-preserved : goal.loop-k-preserved
loop-k-preserved g c = elim c.if-not-contains.branch [
  | then-not-contains w ↦ subst (λ z. UnlistsOff c.args.path.now c.args.stands.now.items z.items c.args.i) (sym w.stands-is)
      (λ j m h x. unlists_off c.args.path.now c.loop-k.stands.items w.unlist.new.stands.items _ c.args.i (sym c.contains.ensures.value ∙ w.if-not-contains.true) w.unlist.ensures.arc w.unlist.ensures.others j m h (c.loop-k.invariant j m h x))
  | else-not-contains w ↦ subst (λ z. UnlistsOff c.args.path.now c.args.stands.now.items z.items c.args.i) (sym w.stands-is) c.loop-k.invariant
]
