use Rattle.kit_words.proofs.Common.{◌≤◌, sym, ap, ◌∙◌, subst, option_map}
use Rattle.ring_machine.specs.Common.{feature}
use Rattle.map_frame.specs.Common.{view_feature, ArePlaced}
use Rattle.map_frame.proofs.EditedStands.{entry_is}
use Rattle.map_frame.proofs.ReadFeatures.{live_past}
use Rattle.map_frame.proofs.PlacedFrames.{all_placed}
use Rattle.map_frame.proofs.tables.Frame.next.Goals as goal

pub returns-clause-below : goal.returns-clause-below
returns-clause-below g c = λ m past.
    let t = c.self.inside.tables in
    ap (λ f. feature f.doc m) (sym c.self.view_is)
    ∙ entry_is t c.self.invariant m
    ∙ ap (option_map (view_feature m)) (live_past t.features.items m (subst (λ f. f.next ≤ m) (sym c.self.view_is) past))

pub returns-clause-placed : goal.returns-clause-placed
returns-clause-placed g c =
    subst (λ f. ArePlaced f.places f.next f.doc) c.self.view_is (all_placed c.self.inside.tables c.self.invariant)
