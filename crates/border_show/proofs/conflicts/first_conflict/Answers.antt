use Rattle.kit_words.proofs.Common.{◌∙◌, sym, subst, Result, Ok, Err, IfErr, IfSome, result_err}
use Rattle.ring_machine.specs.Common.{first_pair}
use Rattle.topo_reader.specs.Common.{document_of, view_raw}
use Rattle.arc_store.specs.Common.{Names}
use Rattle.border_show.proofs.conflicts.first_conflict.Goals as goal

-- what holds of the error holds of it as an option
of_error : {X E : Type 0} (P : E → Type 0) (r : Result X E) → IfErr r P → IfSome (result_err r) P
of_error P (Ok x) h = h
of_error P (Err e) h = h

pub returns-in_ok-of_fault-in-Some : goal.returns-in_ok-of_fault-in-Some
returns-in_ok-of_fault-in-Some c =
    let pair = first_pair (document_of (view_raw c.args.map)) in
    sym (subst (λ f. Names f pair) c.in_ok-of_fault-in-Some.ensures
    (subst (λ o. IfSome o (λ f. Names f pair)) (sym c.err-fault.ensures.value ∙ c.in-Some.is)
    (of_error (λ f. Names f pair) c.build.result c.build.ensures.conflict)))
