use Rattle.kit_words.proofs.Common.{sym, ap, ◌∙◌, subst, Some, arith}
use Rattle.ring_machine.specs.Common.{is_vertex, is_junction}
use Rattle.grid_geometry.specs.Common.{Position, segment}
use Rattle.feature_exchange.specs.Common.{stored}
use Rattle.arc_store.specs.Common.{IsSpot, IsBetween, IsShortest}
use Rattle.arc_store.specs.declared.spot.Spot.TheVariants.{Between}
use Rattle.vertex_index.specs.Common.{place}
use Rattle.arc_store.proofs.Reading.{no_vertex}
use Rattle.arc_store.proofs.SpotLemmas.{spot_junction, two_pass, two_kept, two_between, shortest_read}
use Rattle.arc_store.proofs.map.Map.spot.Goals as goal

pub returns-in_err-k : goal.returns-in_err-k
returns-in_err-k g c =
    let m = c.self.inside in
    subst (IsSpot c.args.self.now.doc c.args.p) (sym c.from_residual.ensures)
    (sym (ap (λ s. is_vertex s.doc c.args.p) c.self.view_is) ∙ no_vertex (stored m.frame m.rings.borders m.rings.vertices) c.self.invariant.holds.whole c.args.p c.in_err-k.ensures.absent)

pub returns-in_default : goal.returns-in_default
returns-in_default g c =
    let m = c.self.inside in
    let h = spot_junction (stored m.frame m.rings.borders m.rings.vertices) c.self.invariant.holds.whole c.in_ok-k.k c.args.p c.in_ok-k.ensures.found c.neighbours.result c.neighbours.ensures c.in_default.not-Two in
    (sym (ap (λ s. is_vertex s.doc c.args.p) c.self.view_is) ∙ h.0, sym (ap (λ s. is_junction s.doc c.args.p) c.self.view_is) ∙ h.1)

-- some ring passes a vertex
pub returns-in_err-shortest : goal.returns-in_err-shortest
returns-in_err-shortest g c =
    let m = c.self.inside in
    absurd (two_pass (stored m.frame m.rings.borders m.rings.vertices) c.self.invariant.holds.whole c.in_ok-k.k c.args.p c.in_ok-k.ensures.found c.in-Two.a c.in-Two.b c.in-Two.ensures c.in_err-shortest.ensures.none)

pub in_order-a-requires-clause-first : goal.in_order-a-requires-clause-first
in_order-a-requires-clause-first g c =
    let m = c.self.inside in
    (two_kept (stored m.frame m.rings.borders m.rings.vertices) c.self.invariant.holds.whole c.in_ok-k.k c.args.p c.in_ok-k.ensures.found c.in-Two.a c.in-Two.b c.in-Two.ensures).0

pub in_order-a-requires-clause-second : goal.in_order-a-requires-clause-second
in_order-a-requires-clause-second g c =
    let m = c.self.inside in
    (two_kept (stored m.frame m.rings.borders m.rings.vertices) c.self.invariant.holds.whole c.in_ok-k.k c.args.p c.in_ok-k.ensures.found c.in-Two.a c.in-Two.b c.in-Two.ensures).1

pub returns : goal.returns
returns g c =
    let m = c.self.inside in
    let s = stored m.frame m.rings.borders m.rings.vertices in
    let w = c.self.invariant.holds.whole in
    let t = segment (place m.rings.vertices c.in-Two.a) (place m.rings.vertices c.in-Two.b) in
    let between = two_between s w c.in_ok-k.k c.args.p c.in_ok-k.ensures.found c.in-Two.a c.in-Two.b c.in-Two.ensures in
    let shortest = shortest_read s w c.in_ok-k.k c.args.p c.in_ok-k.ensures.found c.self.invariant.holds.small c.in_ok-shortest.shortest _ (omega arith) c.in_ok-shortest.ensures.some c.in_ok-shortest.ensures.least in
    subst (λ (z : Position × Position). IsSpot c.args.self.now.doc c.args.p (Some (Between z.0 z.1 c.in_ok-shortest.shortest))) (sym c.in_order-a.ensures)
    (subst (λ s. IsBetween s.doc c.args.p t.lo t.hi × IsShortest s.doc c.args.p c.in_ok-shortest.shortest) c.self.view_is (between, shortest))
