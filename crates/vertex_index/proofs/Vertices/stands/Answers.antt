use Rattle.kit_words.proofs.Common.{◌∙◌, Some, sym, ap, refl, option_copied}
use Rattle.vertex_index.proofs.MirrorLemmas.{slot_has, position_eq-same}
use Rattle.vertex_index.proofs.SlotLemmas.{pos_here}
use Rattle.vertex_index.proofs.Vertices.stands.Goals as goal

pub returns-in-Some : goal.returns-in-Some
returns-in-Some g c same =
    sym (slot_has _ _ c.self.invariant.0 _ c.self.view_is c.args.at c.args.at refl)
    ∙ pos_here c.self.inside.slots.slots c.args.at c.in-Some.slot.now (sym c.get.ensures ∙ ap option_copied c.in-Some.is)
    ∙ ap (λ p. Some p) (position_eq-same c.in-Some.slot.now.pos c.args.p (sym c.eq.ensures ∙ same))
