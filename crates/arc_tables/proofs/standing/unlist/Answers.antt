use Rattle.kit_words.proofs.Common.{◌<◌, sym, ◌∙◌, subst, Contains, length, arith, refl}
use Rattle.arc_tables.proofs.Different.{in_without}
use Rattle.arc_tables.proofs.StandLemmas.{lists_less, stand_other, stand_read}
use Rattle.arc_tables.proofs.standing.unlist.Goals as goal

pub returns-in-Some-clause-arc : goal.returns-in-Some-clause-arc
returns-in-Some-clause-arc g c =
    let ss = c.args.stands.now.items in
    let s = c.in-Some.stand.now in
    let l : c.index.result < length ss = omega (arith, c.in-Some.ensures.variant.0 refl, c.args.stands.now.ok) in
    lists_less ss c.index.result c.args.i (record s { arcs = c.leave_out.new.list }) l
    (λ m ne x. subst (λ z. Contains z m) (sym c.leave_out.ensures) (in_without c.args.i s.arcs.items m ne (subst (λ z. Contains z m) (stand_read ss c.index.result s l c.in-Some.ensures.value) x)))

pub returns-in-Some-clause-others : goal.returns-in-Some-clause-others
returns-in-Some-clause-others g c = λ j f. stand_other c.args.stands.now.items c.index.result j _ (λ e. f (e ∙ c.index.ensures))
