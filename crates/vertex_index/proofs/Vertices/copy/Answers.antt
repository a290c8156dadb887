use Rattle.kit_words.proofs.Common.{◌∙◌, sym, ap}
use Rattle.vertex_index.specs.Common.{placement_of, positions}
use Rattle.vertex_index.proofs.MirrorLemmas.{slots-clone, entries-clone}
use Rattle.vertex_index.proofs.Vertices.copy.Goals as goal

pub invariant_of-result : goal.invariant_of-result
invariant_of-result g c =
    let same_slots = slots-clone _ _ c.in_ok-slots.ensures.cases.slots in
    let same_entries = entries-clone _ _ c.in_ok-keys.ensures.cases in
    rw (← same_slots, ← same_entries) c.self.invariant

pub returns : goal.returns
returns g c =
    ap (λ s. placement_of (positions s)) (sym (slots-clone _ _ c.in_ok-slots.ensures.cases.slots)) ∙ c.self.view_is
