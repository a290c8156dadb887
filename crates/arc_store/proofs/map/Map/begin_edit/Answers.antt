use Rattle.kit_words.proofs.Common.{sym, subst}
use Rattle.edit_records.specs.Common.{IsHeld}
use Rattle.topo_outline.specs.Common.{KeepsTexts}
use Rattle.arc_store.specs.Common.{State}
use Rattle.arc_store.proofs.PlacedMap.{held_seen, keeps_seen}
use Rattle.arc_store.proofs.map.Map.begin_edit.Goals as goal

pub returns-clause-held : goal.returns-clause-held
returns-clause-held g c =
    subst (λ (s : State). IsHeld s.places s.next s.doc) (sym c.self.view_is)
    (held_seen c.self.invariant c.self.view_is c.next.ensures.placed)

pub returns-clause-keeps : goal.returns-clause-keeps
returns-clause-keeps g c =
    subst (λ (s : State). KeepsTexts s.doc) (sym c.self.view_is) (keeps_seen c.self.invariant c.self.view_is)
