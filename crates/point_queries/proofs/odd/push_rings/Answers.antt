use Rattle.kit_words.proofs.Common.{◌<◌, ◌≤◌, ◌∙◌, subst, [], ◌∷◌, length, arith}
use Rattle.std.proofs.Common.{take_all}
use Rattle.grid_geometry.specs.Common.{Segment}
use Rattle.point_queries.specs.Common.{ListsOdd}
use Rattle.point_queries.proofs.OddRings.{odd_none_listed, odd_one_listed, odd_more_listed}
use Rattle.point_queries.proofs.odd.push_rings.Goals as goal

pub loop-s-init : goal.loop-s-init
loop-s-init g c = odd_none_listed c.args.map.now.doc c.args.out.now.items

pub loop-s-preserved : goal.loop-s-preserved
loop-s-preserved g c =
    let d = c.args.map.now.doc in
    let segments = c.args.segments.now in
    let s : Segment = c.s-item.result in
    let mid = c.loop-s.out.items in
    let within : c.loop-s.s-index < length segments = omega (arith, c.loop-s-test.true) in
    odd_more_listed d segments c.loop-s.s-index c.s-item.result c.args.out.now.items mid c.push_rings_of.new.out.items within c.loop-s.invariant
    (subst (λ z. ListsOdd d (z ∷ []) mid c.push_rings_of.new.out.items) c.s-item.is
    (odd_one_listed d s mid c.push_rings_of.new.out.items c.in_ok-push_rings_of.ensures))

pub returns : goal.returns
returns g c =
    let segments = c.args.segments.now in
    let past : length segments ≤ c.loop-s.s-index = omega (arith, c.loop-s-test.false) in
    subst (λ z. ListsOdd c.args.map.now.doc z c.args.out.now.items c.loop-s.out.items) (take_all c.loop-s.s-index segments past) c.loop-s.invariant
