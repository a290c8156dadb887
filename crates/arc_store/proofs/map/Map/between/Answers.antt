use Rattle.kit_words.proofs.Common.{sym, ap, ap₂, ◌∙◌, subst, ◌&&◌, not}
use Rattle.grid_geometry.specs.Common.{Position, segment}
use Rattle.ring_machine.specs.Common.{is_vertex, is_junction}
use Rattle.vertex_index.specs.Common.{place}
use Rattle.feature_exchange.specs.Common.{stored}
use Rattle.arc_store.specs.Common.{IsBetween}
use Rattle.arc_store.proofs.Reading.{no_vertex}
use Rattle.arc_store.proofs.SpotLemmas.{spot_junction, two_kept, two_between}
use Rattle.arc_store.proofs.map.Map.between.Goals as goal

pub returns-in_default-clause-none : goal.returns-in_default-clause-none
returns-in_default-clause-none g c =
    let m = c.self.inside in
    ap (λ b. b && not (is_junction c.args.self.now.doc c.args.p))
    (sym (ap (λ s. is_vertex s.doc c.args.p) c.self.view_is) ∙ no_vertex (stored m.frame m.rings.borders m.rings.vertices) c.self.invariant.holds.whole c.args.p c.in_default.ensures.absent)

pub returns-in_default-neighbours-clause-none : goal.returns-in_default-neighbours-clause-none
returns-in_default-neighbours-clause-none g c =
    let m = c.self.inside in
    let h = spot_junction (stored m.frame m.rings.borders m.rings.vertices) c.self.invariant.holds.whole c.in-Some.k c.args.p c.in-Some.ensures.found c.neighbours.result c.neighbours.ensures c.in_default-neighbours.not-Two in
    ap₂ (λ v j. v && not j) (sym (ap (λ s. is_vertex s.doc c.args.p) c.self.view_is) ∙ h.0) (sym (ap (λ s. is_junction s.doc c.args.p) c.self.view_is) ∙ h.1)

pub in_order-requires-clause-first : goal.in_order-requires-clause-first
in_order-requires-clause-first g c =
    let m = c.self.inside in
    (two_kept (stored m.frame m.rings.borders m.rings.vertices) c.self.invariant.holds.whole c.in-Some.k c.args.p c.in-Some.ensures.found c.in-Two.a c.in-Two.b c.in-Two.ensures).0

pub in_order-requires-clause-second : goal.in_order-requires-clause-second
in_order-requires-clause-second g c =
    let m = c.self.inside in
    (two_kept (stored m.frame m.rings.borders m.rings.vertices) c.self.invariant.holds.whole c.in-Some.k c.args.p c.in-Some.ensures.found c.in-Two.a c.in-Two.b c.in-Two.ensures).1

pub returns-in-Two-clause-some : goal.returns-in-Two-clause-some
returns-in-Two-clause-some g c =
    let m = c.self.inside in
    let t = segment (place m.rings.vertices c.in-Two.a) (place m.rings.vertices c.in-Two.b) in
    subst (λ (z : Position × Position). IsBetween c.args.self.now.doc c.args.p z.0 z.1) (sym c.in_order.ensures)
    (subst (λ s. IsBetween s.doc c.args.p t.lo t.hi) c.self.view_is (two_between (stored m.frame m.rings.borders m.rings.vertices) c.self.invariant.holds.whole c.in-Some.k c.args.p c.in-Some.ensures.found c.in-Two.a c.in-Two.b c.in-Two.ensures))
