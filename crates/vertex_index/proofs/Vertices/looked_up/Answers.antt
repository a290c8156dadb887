use Rattle.kit_words.proofs.Common.{◌∙◌}
use Rattle.vertex_index.proofs.MirrorLemmas.{found_key, absent_key, distinct}
use Rattle.vertex_index.proofs.Vertices.looked_up.Goals as goal

pub returns-clause-found : goal.returns-clause-found
returns-clause-found g c =
    found_key _ _ c.self.invariant.0 _ c.self.view_is c.args.p _
    (c.copied.ensures ∙ c.get.ensures.value)

pub returns-clause-absent : goal.returns-clause-absent
returns-clause-absent g c =
    absent_key _ _ c.self.invariant.0 _ c.self.view_is c.args.p _
    (c.copied.ensures ∙ c.get.ensures.value)

pub returns-clause-distinct : goal.returns-clause-distinct
returns-clause-distinct g c = distinct _ _ c.self.invariant.0 _ c.self.view_is
