use Rattle.point_queries.proofs.Coordinates.{greater_fits}
use Rattle.point_queries.proofs.diagonal.greatest.Goals as goal

pub unwrap-requires : goal.unwrap-requires
unwrap-requires c =
    c.new.ensures.exact.1 (record {
      across = greater_fits c.max.result c.x.result c.x-2.result c.args.a.x c.args.b.x
          c.max.ensures.value c.x.ensures.value c.x-2.ensures.value c.x.ensures.range.across c.x-2.ensures.range.across;
      upward = greater_fits c.max-2.result c.y.result c.y-2.result c.args.a.y c.args.b.y
          c.max-2.ensures.value c.y.ensures.value c.y-2.ensures.value c.y.ensures.range.upward c.y-2.ensures.range.upward;
    })
