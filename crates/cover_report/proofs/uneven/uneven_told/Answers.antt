use Rattle.kit_words.proofs.Common.{◌∙◌, ap, map, take_all}
use Rattle.cover_report.specs.Uneven.{uneven_told}
use Rattle.cover_report.proofs.uneven.uneven_told.Goals as goal

pub returns : goal.returns
returns g c =
    c.loop-it.invariant ∙ ap (map (uneven_told c.args.owners.now c.args.numbers.now)) (take_all c.loop-it.it-index c.args.uneven.now c.loop-it-test.false)
