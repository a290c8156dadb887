use Rattle.kit_words.proofs.Common.{◌≡◌, ◌≤◌, ap, sym, ◌∙◌, subst, length, reverse, take, arith, length-reverse}
use Rattle.arc_tables.proofs.place.agreed_back.Goals as goal

pub returns-clause-all : goal.returns-clause-all
returns-clause-all g c = λ l k e.
    let same : c.as_slice.result.now ≡ reverse c.args.path.now = c.as_slice.ensures.value ∙ c.reverse.ensures.items ∙ ap reverse c.in_ok-turned.ensures.items in
    c.agreed.ensures.all 2 (subst (λ z. 2 ≤ length z) (sym same) (omega (arith, length-reverse c.args.path.now, l))) k (ap (take 2) same ∙ e)
