use Rattle.kit_words.proofs.Common.{◌∙◌, sym, ap}
use Rattle.std.specs.FinMap as map
use Rattle.vertex_index.specs.Common.{positions}
use Rattle.vertex_index.proofs.SlotLemmas.{as_many}
use Rattle.vertex_index.proofs.PlacementLemmas.{len-placement_of}
use Rattle.vertex_index.proofs.MirrorLemmas.{distinct, in_range}
use Rattle.vertex_index.proofs.Vertices.len.Goals as goal

pub returns-clause-len : goal.returns-clause-len
returns-clause-len g c =
    c.len.ensures ∙ sym (as_many c.self.inside.slots.slots)
    ∙ sym (len-placement_of (positions c.self.inside.slots.slots)) ∙ ap map.len c.self.view_is

pub returns-clause-distinct : goal.returns-clause-distinct
returns-clause-distinct g c = distinct _ _ c.self.invariant.0 _ c.self.view_is

pub returns-clause-range : goal.returns-clause-range
returns-clause-range g c = in_range _ _ c.self.invariant.0 _ c.self.view_is
