use Rattle.kit_words.proofs.Common.{◌∙◌}
use Rattle.vertex_index.proofs.MirrorLemmas.{distinct}
use Rattle.vertex_index.proofs.Vertices.key_of.Goals as goal

pub returns-then-stands-clause-distinct : goal.returns-then-stands-clause-distinct
returns-then-stands-clause-distinct g c = distinct _ _ c.self.invariant.0 _ c.self.view_is
