use Rattle.kit_words.proofs.Common.{◌∙◌}
use Rattle.point_queries.proofs.Ascending.{among}
use Rattle.point_queries.proofs.inside.is_among.Goals as goal

pub returns : goal.returns
returns c = c.is_ok.ensures.value ∙ among c.args.numbers.now c.args.n _ c.requires c.binary_search.ensures.position
