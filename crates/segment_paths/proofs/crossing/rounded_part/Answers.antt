use Rattle.kit_words.proofs.Common.{◌*◌}
use Rattle.segment_paths.proofs.Rounding.{quotient_rounded, part_bound}
use Rattle.segment_paths.proofs.crossing.rounded_part.Goals as goal

pub returns : goal.returns
returns c = record {
  rounded = quotient_rounded (c.args.length * c.args.part) c.args.whole c.requires.some;
  bound = part_bound c.args.length c.args.part c.args.whole c.requires.some c.requires.within;
}
