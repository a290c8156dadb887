use Rattle.kit_words.proofs.Common.{◌∙◌}
use Rattle.layer_sides.proofs.Flipping.{found_has}
use Rattle.layer_sides.proofs.flips.has.Goals as goal

pub returns : goal.returns
returns c =
    c.is_ok.ensures.value ∙ found_has c.args.numbers.now c.args.n c.binary_search.result c.requires c.binary_search.ensures.position
