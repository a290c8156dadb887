use Rattle.kit_words.proofs.Common.{refl, ap₂, ◌∙◌, length, inl, inr}
use Rattle.grid_geometry.specs.Common.{Segment}
use Rattle.feature_exchange.specs.Common.{stored}
use Rattle.arc_store.specs.Common.{users}
use Rattle.arc_store.proofs.Reading.{users_read, unused_read}
use Rattle.arc_store.proofs.map.Map.uses.Goals as goal

pub returns-in-Some-key_beside : goal.returns-in-Some-key_beside
returns-in-Some-key_beside g c =
    let m = c.self.inside in
    let t : Segment = record { lo = c.s.inside.lo; hi = c.s.inside.hi } in
    c.uses.ensures
    ∙ users_read (stored m.frame m.rings.borders m.rings.vertices) c.self.invariant.holds.whole c.in-Some.a c.in-Some-key_beside.b t c.in-Some.ensures.found c.in-Some-key_beside.ensures.found c.s.invariant
    ∙ ap₂ (λ s z. length (users s.doc z)) c.self.view_is c.s.view_is

pub returns-in-None : goal.returns-in-None
returns-in-None g c =
    let m = c.self.inside in
    let t : Segment = record { lo = c.s.inside.lo; hi = c.s.inside.hi } in
    unused_read (stored m.frame m.rings.borders m.rings.vertices) c.self.invariant.holds.whole t t.hi (inr refl) c.key_beside.result c.in-None.is c.key_beside.ensures.absent
    ∙ ap₂ (λ s z. length (users s.doc z)) c.self.view_is c.s.view_is

pub returns-in_default : goal.returns-in_default
returns-in_default g c =
    let m = c.self.inside in
    let t : Segment = record { lo = c.s.inside.lo; hi = c.s.inside.hi } in
    unused_read (stored m.frame m.rings.borders m.rings.vertices) c.self.invariant.holds.whole t t.lo (inl refl) c.key_of.result c.in_default.is c.key_of.ensures.absent
    ∙ ap₂ (λ s z. length (users s.doc z)) c.self.view_is c.s.view_is
