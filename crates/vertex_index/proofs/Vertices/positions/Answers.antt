use Rattle.kit_words.proofs.Common.{◌∙◌, sym, subst}
use Rattle.vertex_index.specs.Common.{ArePlaces}
use Rattle.vertex_index.proofs.MirrorLemmas.{are_places}
use Rattle.vertex_index.proofs.Vertices.positions.Goals as goal

pub returns : goal.returns
returns g c =
    subst (ArePlaces c.args.self.now) (sym (c.as_slice.ensures ∙ c.keys.ensures.rest))
    (are_places _ _ c.self.invariant.0 _ c.self.view_is)
