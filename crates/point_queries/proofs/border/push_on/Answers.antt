use Rattle.kit_words.proofs.Common.{◌∙◌, ◌<◌, sym, ap, subst, length, arith}
use Rattle.grid_geometry.specs.Common.{Segment, segment}
use Rattle.arc_store.specs.Common.{ListsRings, ListsRingNames}
use Rattle.point_queries.specs.Common.{on_edge}
use Rattle.point_queries.proofs.Sharers.{users_more, on_listed, off_listed}
use Rattle.point_queries.proofs.border.push_on.Goals as goal
use Rattle.point_queries.proofs.border.push_on.Goals.{then-on+in_ok-push_rings_of, else-on}

pub loop-s-preserved : goal.loop-s-preserved
loop-s-preserved g c =
    let d = c.args.map.now.doc in
    let p = c.args.p in
    let near = c.args.near.now in
    let i = c.loop-s.s-index in
    let s : Segment = c.s-item.result in
    let mid = c.loop-s.out.items in
    let within : i < length near = omega (arith, c.loop-s-test.true) in
    let one : ListsRingNames d (on_edge p s) mid c.if-on.out.items = elim c.if-on.branch [
      | then-on+in_ok-push_rings_of w ↦
          on_listed d p s mid c.if-on.out.items (sym c.on.ensures ∙ w.if-on.true)
          (subst (λ z. ListsRings d (segment s.lo s.hi) mid z) (sym (ap (λ z. z.items) w.out-is)) w.in_ok-push_rings_of.ensures)
      | else-on w ↦
          subst (λ z. ListsRingNames d (on_edge p s) mid z) (sym (ap (λ z. z.items) w.out-is)) (off_listed d p s mid (sym c.on.ensures ∙ w.if-on.false))
    ] in
    users_more (on_edge p) d near i c.s-item.result c.args.out.now.items mid c.if-on.out.items within c.loop-s.invariant
    (subst (λ z. ListsRingNames d (on_edge p z) mid c.if-on.out.items) c.s-item.is one)
