use Rattle.kit_words.proofs.Common.{◌∙◌, sym, ap, is_some, option_copied}
use Rattle.vertex_index.proofs.MirrorLemmas.{slot_has, IsSome-copied, distinct}
use Rattle.vertex_index.proofs.SlotLemmas.{is_held, pos_here}
use Rattle.vertex_index.proofs.Vertices.pos.Goals as goal

pub unwrap-requires : goal.unwrap-requires
unwrap-requires g c =
    let there = slot_has _ _ c.self.invariant.0 _ c.self.view_is c.args.k _ c.index.ensures in
    IsSome-copied _ (ap is_some c.get.ensures ∙ is_held _ c.index.result ∙ ap is_some there ∙ c.requires)

pub returns-clause-value : goal.returns-clause-value
returns-clause-value g c =
    sym (slot_has _ _ c.self.invariant.0 _ c.self.view_is c.args.k _ c.index.ensures)
    ∙ pos_here c.self.inside.slots.slots c.index.result _ (sym c.get.ensures ∙ ap option_copied c.unwrap.ensures)

pub returns-clause-distinct : goal.returns-clause-distinct
returns-clause-distinct g c = distinct _ _ c.self.invariant.0 _ c.self.view_is
