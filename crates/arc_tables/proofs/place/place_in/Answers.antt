use Rattle.kit_words.proofs.Common.{◌≡◌, arith, sym, subst}
use Rattle.std.proofs.Common.{take_all}
use Rattle.arc_tables.specs.Common.{times, links}
use Rattle.arc_tables.proofs.Finding.{none_begun, times_more}
use Rattle.arc_tables.proofs.place.place_in.Goals as goal

pub loop-at-init : goal.loop-at-init
loop-at-init c = λ l. none_begun c.args.a c.args.b c.args.path.now _ (omega (arith, c.max-at.ensures, l))

pub loop-at-preserved : goal.loop-at-preserved
loop-at-preserved c = λ l. times_more c.args.a c.args.b _ _ c.args.path.now c.loop-at.at (omega arith) (omega arith) c.index-path-at.is c.index-path-at-in-loop-at.is (c.loop-at.invariant l) (sym c.if-leads.ensures) (sym c.if-leads-2.ensures)

pub returns-clause-none : goal.returns-clause-none
returns-clause-none c = λ l m. subst (λ z. times c.args.a c.args.b (links z) ≡ 0) (take_all c.loop-at.at c.args.path.now (omega (arith, c.loop-at-test.false, c.min-at-end.ensures, m))) (c.loop-at.invariant l)
