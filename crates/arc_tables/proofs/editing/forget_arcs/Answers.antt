use Rattle.kit_words.proofs.Common.{◌∙◌, sym, subst, Contains}
use Rattle.arc_tables.proofs.StandLemmas.{stand_other}
use Rattle.arc_tables.proofs.editing.forget_arcs.Goals as goal

pub returns-in-Some : goal.returns-in-Some
returns-in-Some g c = λ j m f x. subst (λ z. Contains z m) (sym (stand_other c.args.stands.now.items c.index.result j (record c.in-Some.stand.now { arcs = c.clear.new.self }) (λ e. f (e ∙ c.index.ensures)))) x
