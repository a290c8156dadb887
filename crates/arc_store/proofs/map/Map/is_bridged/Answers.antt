use Rattle.kit_words.proofs.Common.{sym, ap, ◌∙◌, nat_lt, false≢true}
use Rattle.ring_machine.specs.Common.{is_junction, is_bridged}
use Rattle.feature_exchange.specs.Common.{stored, stored_document}
use Rattle.arc_store.proofs.NoJunction as without
use Rattle.arc_store.proofs.Reading.{no_vertex}
use Rattle.arc_store.proofs.SpotLemmas.{spot_junction, bridge_used}
use Rattle.arc_store.proofs.map.Map.is_bridged.Goals as goal

pub returns-in_default : goal.returns-in_default
returns-in_default g c =
    let m = c.self.inside in
    let s = stored m.frame m.rings.borders m.rings.vertices in
    sym (without.no_bridge (stored_document s) c.args.p (no_vertex s c.self.invariant.holds.whole c.args.p c.in_default.ensures.absent))
    ∙ ap (λ z. is_bridged z.doc c.args.p) c.self.view_is

pub returns-in-Two : goal.returns-in-Two
returns-in-Two g c =
    let m = c.self.inside in
    ap (nat_lt 0) c.uses.ensures
    ∙ bridge_used (stored m.frame m.rings.borders m.rings.vertices) c.self.invariant.holds.whole c.in-Some.k c.args.p c.in-Some.ensures.found c.in-Two.a c.in-Two.b c.in-Two.ensures
    ∙ ap (λ z. is_bridged z.doc c.args.p) c.self.view_is

-- a vertex without two neighbours is a junction
pub returns-in_default-neighbours : goal.returns-in_default-neighbours
returns-in_default-neighbours g c =
    let m = c.self.inside in
    let h = spot_junction (stored m.frame m.rings.borders m.rings.vertices) c.self.invariant.holds.whole c.in-Some.k c.args.p c.in-Some.ensures.found c.neighbours.result c.neighbours.ensures c.in_default-neighbours.not-Two in
    absurd (false≢true (sym c.requires.inner ∙ sym (ap (λ z. is_junction z.doc c.args.p) c.self.view_is) ∙ h.1))
