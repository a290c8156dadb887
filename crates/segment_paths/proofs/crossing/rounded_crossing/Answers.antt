use Rattle.kit_words.proofs.Common.{◌<◌, subst, sym, false≢true}
use Rattle.segment_paths.specs.Common.{IsRoundedCrossing, whole}
use Rattle.segment_paths.proofs.Crossings.{crossing_some, in_range, read_between, is_crossing}
use Rattle.segment_paths.proofs.crossing.rounded_crossing.Goals as goal

pub rounded_between-x-requires-clause-some : goal.rounded_between-x-requires-clause-some
rounded_between-x-requires-clause-some c =
    rw (c.beside-part.ensures.value, c.beside.ensures.value) (subst (λ s. 0 < whole s c.args.t) (sym c.s.view_is) (crossing_some c.args.s c.args.t c.requires))

pub rounded_between-y-requires-clause-some : goal.rounded_between-y-requires-clause-some
rounded_between-y-requires-clause-some c =
    rw (c.beside-part.ensures.value, c.beside.ensures.value) (subst (λ s. 0 < whole s c.args.t) (sym c.s.view_is) (crossing_some c.args.s c.args.t c.requires))

pub unreachable-requires : goal.unreachable-requires
unreachable-requires c =
    false≢true (c.in-None.ensures.exact.1 (in_range c.rounded_between-x.result c.rounded_between-y.result c.rounded_between-x.ensures.bound c.rounded_between-y.ensures.bound))

pub returns : goal.returns
returns c =
    subst (λ s. IsRoundedCrossing s c.args.t c.in-Some.p) c.s.view_is
    (is_crossing _ c.args.t c.in-Some.p c.rounded_between-x.result c.rounded_between-y.result c.beside-part.result c.beside.result
    c.beside-part.ensures.value c.beside.ensures.value
    (read_between c.x.result c.x-2.result c.s.inside.lo.x c.s.inside.hi.x c.rounded_between-x.result c.beside-part.result _ c.x.ensures.value c.x-2.ensures.value c.x.ensures.range.across c.x-2.ensures.range.across c.rounded_between-x.ensures.rounded)
    (read_between c.y.result c.y-2.result c.s.inside.lo.y c.s.inside.hi.y c.rounded_between-y.result c.beside-part.result _ c.y.ensures.value c.y-2.ensures.value c.y.ensures.range.upward c.y-2.ensures.range.upward c.rounded_between-y.ensures.rounded)
    c.rounded_between-x.ensures.bound c.rounded_between-y.ensures.bound c.in-Some.ensures.value)
