use Rattle.kit_words.proofs.Common.{ap, None}
use Rattle.arc_store.specs.Common.{State}
use Rattle.arc_store.proofs.map.Map.copy.Goals as goal

pub invariant_of-result : goal.invariant_of-result
invariant_of-result g c = rw (c.in_ok-frame.ensures, c.in_ok-rings.ensures) c.self.invariant

pub returns : goal.returns
returns g c =
    rw (c.in_ok-frame.ensures, c.in_ok-rings.ensures) (ap (λ (s : State). record s { last = None }) c.self.view_is)
