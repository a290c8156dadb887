use Rattle.kit_words.proofs.Common.{inl, inr, refl, ◌∙◌, sym}
use Rattle.feature_exchange.proofs.Visited.{used_visited, none_lonely, some_visited}
use Rattle.feature_exchange.proofs.lonely.remove_unused.Goals as goal

pub returns-then-uses_along-ne0 : goal.returns-then-uses_along-ne0
returns-then-uses_along-ne0 g c =
    inl (used_visited c.args.borders.now c.requires.round c.args.k c.args.next (λ e. c.if-uses_along-ne0.true (c.uses_along.ensures ∙ e)), refl)

pub returns-in-None : goal.returns-in-None
returns-in-None g c = inr (none_lonely c.args.borders.now c.args.k c.in-None.ensures, c.remove.ensures)

pub returns-in_default : goal.returns-in_default
returns-in_default g c = inl (some_visited c.args.borders.now c.requires.round c.args.k c.neighbours.result c.in_default.not-None c.neighbours.ensures, refl)
