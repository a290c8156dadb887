use Rattle.segment_sets.proofs.Homes.{none-held}
use Rattle.segment_sets.proofs.directory.Directory.over.Goals as goal

pub returns : goal.returns
returns g c =
    none-held c.over-region.result.rows c.over-region.result.columns c.in_ok-empty_strips.field-0.items c.new.result c.in_ok-empty_strips.ensures c.new.ensures
