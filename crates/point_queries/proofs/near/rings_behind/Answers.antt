use Rattle.kit_words.proofs.Common.{◌<◌, ◌≤◌, ◌∙◌, sym, subst, length, arith}
use Rattle.std.proofs.Common.{take_all}
use Rattle.grid_geometry.specs.Common.{Segment}
use Rattle.point_queries.specs.Common.{AreBehind}
use Rattle.point_queries.proofs.Behind.{behind_none, behind_on, behind_same}
use Rattle.point_queries.proofs.near.rings_behind.Goals as goal
use Rattle.point_queries.proofs.near.rings_behind.Goals.{then-is_behind+in_ok-push_unseen, else-is_behind}

pub loop-s-init : goal.loop-s-init
loop-s-init g c = rw c.new-names.ensures.items (behind_none c.args.map.now.doc c.args.p c.args.suspects.now)

pub loop-s-preserved : goal.loop-s-preserved
loop-s-preserved g c =
    let d = c.args.map.now.doc in
    let p = c.args.p in
    let near = c.args.near.now in
    let i = c.loop-s.s-index in
    let s : Segment = c.s-item.result in
    let old = c.loop-s.names.items in
    let within : i < length near = omega (arith, c.loop-s-test.true) in
    elim c.if-is_behind.branch [
      | then-is_behind+in_ok-push_unseen w ↦
          rw w.names-is (behind_on d p c.args.suspects.now near i s c.s-item.result old within c.s-item.is c.loop-s.invariant w.push_unseen.new.names.items
          (sym c.is_behind.ensures ∙ w.if-is_behind.true) w.in_ok-push_unseen.ensures)
      | else-is_behind w ↦
          rw w.names-is (behind_same d p c.args.suspects.now near i s c.s-item.result old within c.s-item.is c.loop-s.invariant (sym c.is_behind.ensures ∙ w.if-is_behind.false))
    ]

pub returns : goal.returns
returns g c =
    let near = c.args.near.now in
    let past : length near ≤ c.loop-s.s-index = omega (arith, c.loop-s-test.false) in
    subst (λ z. AreBehind c.args.map.now.doc c.args.p c.args.suspects.now z c.loop-s.names.items) (take_all c.loop-s.s-index near past) c.loop-s.invariant
