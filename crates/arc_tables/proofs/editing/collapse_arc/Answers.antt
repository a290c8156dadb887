use Rattle.kit_words.proofs.Common.{sym, ap, subst, refl, IsSome}
use Rattle.slab.specs.Slab.{get}
use Rattle.slab.proofs.SlabLemmas.{Updates-with_value}
use Rattle.arc_tables.specs.Common.{Collapses, path_in}
use Rattle.arc_tables.proofs.editing.collapse_arc.Goals as goal

pub returns-in-Some-clause-here : goal.returns-in-Some-clause-here
returns-in-Some-clause-here g c =
    let p = c.args.p in
    let b = c.args.b in
    let updates = Updates-with_value c.args.arcs.now c.args.i (record { keys = c.collapse.new.path; rings = c.in-Some.arc.now.rings }) (subst (λ o. IsSome o) c.in-Some.ensures.value refl) in
    subst (Collapses p b (path_in (get c.args.arcs.now c.args.i))) (ap path_in (sym updates.changed))
    (subst (λ z. Collapses p b z c.collapse.new.path.items) (ap path_in c.in-Some.ensures.value) c.collapse.ensures)
