use Rattle.kit_words.proofs.Common.{◌∙◌}
use Rattle.ring_parts.proofs.Common.{search_tells}
use Rattle.map_features.proofs.sorted.has_sorted.Goals as goal

pub returns : goal.returns
returns g c = c.is_ok.ensures.value ∙ search_tells g.T.Ord.cmp g.met.T.Ord.total g.T.PartialEq.eq g.met.T.Ord.matches_eq c.args.sorted.now c.args.x.now c.requires c.binary_search.result c.binary_search.ensures.bound c.binary_search.ensures.position
