use Rattle.kit_words.proofs.Common.{subst, sym}
use Rattle.segment_paths.specs.Common.{IsKnown}
use Rattle.segment_paths.proofs.round.join_ends.Goals as goal

pub returns-then-lesser : goal.returns-then-lesser
returns-then-lesser g c ss paths h piece other =
    c.in_ok-greater.ensures ss paths (c.in_ok-lesser.ensures ss paths h piece (subst (λ p. IsKnown ss p.link.lo) (sym c.other.view_is) other.lesser))
    piece (subst (λ p. IsKnown ss p.link.hi) (sym c.other.view_is) other.greater)

pub returns-else-lesser : goal.returns-else-lesser
returns-else-lesser g c ss paths h piece other =
    c.in_ok-greater.ensures ss paths (c.in_ok-lesser.ensures ss paths h piece (subst (λ p. IsKnown ss p.link.lo) (sym c.other.view_is) other.lesser))
    piece (subst (λ p. IsKnown ss p.link.hi) (sym c.other.view_is) other.greater)
