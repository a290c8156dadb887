use Rattle.kit_words.proofs.Common.{subst, sym, ap, ◌∙◌}
use Rattle.std.proofs.Common.{unwrap_or}
use Rattle.point_queries.specs.Common.{IsWider}
use Rattle.point_queries.proofs.Widening.{wider_is}
use Rattle.point_queries.proofs.diagonal.widened.Goals as goal

pub returns : goal.returns
returns c =
    subst (λ d. IsWider d c.args.p c.unwrap_or.result) c.d.view_is
    (wider_is c.new.result _ c.unwrap_or.result c.args.p c.least.result c.greatest.result c.least-lo.result c.greatest-hi.result
    c.least.ensures c.greatest.ensures c.least-lo.ensures c.greatest-hi.ensures c.new.ensures.none.0 c.new.ensures.some
    (c.unwrap_or.ensures ∙ ap (unwrap_or c.new.result) (sym c.d.view_is)))
