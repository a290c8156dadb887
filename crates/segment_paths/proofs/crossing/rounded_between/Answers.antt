use Rattle.segment_paths.proofs.Rounding.{is_at_most, is_more, up_from, down_from}
use Rattle.segment_paths.proofs.crossing.rounded_between.Goals as goal

pub returns-then-a-b-clause-rounded : goal.returns-then-a-b-clause-rounded
returns-then-a-b-clause-rounded c =
    up_from c.args.a c.args.b c.abs_diff.result c.args.part c.args.whole c.rounded_part.result
    (is_at_most c.args.a c.args.b c.requires.from c.requires.to c.if-a-b.true) c.requires.from c.requires.to
    c.abs_diff.ensures c.rounded_part.ensures.bound c.rounded_part.ensures.rounded

pub returns-else-a-b-clause-rounded : goal.returns-else-a-b-clause-rounded
returns-else-a-b-clause-rounded c =
    down_from c.args.a c.args.b c.abs_diff-else-a-b.result c.args.part c.args.whole c.rounded_part-else-a-b.result
    (is_more c.args.a c.args.b c.requires.from c.requires.to c.if-a-b.false) c.requires.within c.requires.from c.requires.to
    c.abs_diff-else-a-b.ensures c.rounded_part-else-a-b.ensures.bound c.rounded_part-else-a-b.ensures.rounded
