use Rattle.kit_words.proofs.Common.{ap, subst, sym}
use Rattle.std.proofs.Common.{take_all}
use Rattle.slab.specs.Slab.{get}
use Rattle.arc_tables.specs.Common.{Collapses, CollapsesAmong, path_in}
use Rattle.arc_tables.proofs.Removing.{among_once, among_next, users_then}
use Rattle.arc_tables.proofs.editing.collapse_all.Goals as goal

pub collapse_arc-requires-clause-once : goal.collapse_arc-requires-clause-once
collapse_arc-requires-clause-once g c = among_once _ _ c.args.p c.args.b _ _ (c.loop-i.invariant.paths _) (c.requires.once _)

pub loop-i-preserved : goal.loop-i-preserved
loop-i-preserved g c = record {
  paths = λ j. among_next c.args.among.now c.loop-i.i-index j c.args.p c.args.b (path_in (get c.args.arcs.now j)) (path_in (get c.loop-i.arcs j)) (path_in (get c.collapse_arc.new.arcs j)) c.loop-i-test.true (c.loop-i.invariant.paths j)
      (λ e. subst (λ n. Collapses c.args.p c.args.b (path_in (get c.loop-i.arcs n)) (path_in (get c.collapse_arc.new.arcs n))) (sym e) c.collapse_arc.ensures.here)
      (λ f. ap path_in (c.collapse_arc.ensures.others j f));
  users = users_then c.args.arcs.now c.loop-i.arcs c.collapse_arc.new.arcs c.loop-i.invariant.users c.collapse_arc.ensures.users;
}

pub returns-clause-paths : goal.returns-clause-paths
returns-clause-paths g c = λ j. subst (λ z. CollapsesAmong z j c.args.p c.args.b (path_in (get c.args.arcs.now j)) (path_in (get c.loop-i.arcs j))) (take_all c.loop-i.i-index c.args.among.now c.loop-i-test.false) (c.loop-i.invariant.paths j)
