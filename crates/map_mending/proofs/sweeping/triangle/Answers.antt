use Rattle.kit_words.proofs.Common.{◌≡◌, ◌≤◌, ◌+◌, ◌-ℤ◌, unsigned_abs, arith, sym, ap, subst, ints}
use Rattle.grid_geometry.specs.Common.{Segment, orientation}
use Rattle.map_mending.proofs.Triangles.{triangle_small}
use Rattle.map_mending.proofs.sweeping.triangle.Goals as goal

pub returns-clause-bound : goal.returns-clause-bound
returns-clause-bound c =
    let small = triangle_small c.args.segment c.args.from c.args.to c.requires.long c.requires.from c.requires.to in
    let inside = subst (λ (s : Segment). unsigned_abs (orientation c.args.from c.args.to s.hi) ≤ unsigned_abs (s.hi.x -ℤ s.lo.x) + unsigned_abs (s.hi.y -ℤ s.lo.y))
    (sym c.segment.view_is) small in
    let is : c.unsigned_abs.result ≡ unsigned_abs (orientation c.args.from c.args.to c.segment.inside.hi) = omega (arith, ints, c.unsigned_abs.ensures.value, ap unsigned_abs c.orient.ensures) in
    omega (arith, ints, inside, is, c.x.ensures.range, c.x-2.ensures.range)
