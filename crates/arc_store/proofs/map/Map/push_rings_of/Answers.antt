use Rattle.kit_words.proofs.Common.{◌≡◌, ℕ, [], true, Some, sym, subst, Contains, on_ok_weaker}
use Rattle.grid_geometry.specs.Common.{Segment, segment}
use Rattle.ring_machine.specs.Common.{is_segment}
use Rattle.map_frame.specs.declared.names.RingName.{RingName}
use Rattle.map_frame.specs.Common.{number_at}
use Rattle.feature_exchange.specs.Common.{stored_document, stored}
use Rattle.arc_store.specs.Common.{ListsRings}
use Rattle.arc_store.proofs.NamedRings.{listed_names, other_end, rings_listed, none_from}
use Rattle.arc_store.proofs.map.Map.push_rings_of.Goals as goal

pub returns-in_default : goal.returns-in_default
returns-in_default g c =
    let m = c.self.inside in
    let v = c.self.invariant in
    let old = c.args.out.now.items in
    subst (λ (z : Segment). ListsRings c.args.self.now.doc (segment z.lo z.hi) old old) c.s.view_is
    (subst (λ z. ListsRings z.doc (segment c.s.inside.lo c.s.inside.hi) old old) c.self.view_is
    (none_from m.frame m.rings.borders m.rings.vertices v.holds.whole c.s.inside.lo c.s.inside.hi c.key_of.result c.in_default.is c.key_of.ensures.absent old))

pub push_names-requires : goal.push_names-requires
push_names-requires g c =
    let m = c.self.inside in
    let v = c.self.invariant in
    let a = c.in-Some.a in
    let s : Segment = record { lo = c.s.inside.lo; hi = c.s.inside.hi } in
    let there : is_segment (stored_document (stored m.frame m.rings.borders m.rings.vertices)) s ≡ true =
    subst (λ z. is_segment z.doc s ≡ true) (sym c.self.view_is) (subst (λ z. is_segment c.args.self.now.doc z ≡ true) (sym c.s.view_is) c.requires) in
    let e = other_end m.frame m.rings.borders m.rings.vertices v.holds.whole s there a c.in-Some.ensures.found in
    listed_names m.frame m.rings.borders m.rings.vertices v.holds.whole a e.0 s.lo s.hi c.in-Some.ensures.found e.2 v.holds.formed.numbers
    c.in-Some-users_around.numbers.now (c.in-Some-users_around.ensures e.0 e.1 e.3)

pub returns-in-Some-users_around : goal.returns-in-Some-users_around
returns-in-Some-users_around g c =
    let m = c.self.inside in
    let v = c.self.invariant in
    let a = c.in-Some.a in
    let old = c.args.out.now.items in
    let new = c.push_names.new.out.items in
    let s : Segment = record { lo = c.s.inside.lo; hi = c.s.inside.hi } in
    let there : is_segment (stored_document (stored m.frame m.rings.borders m.rings.vertices)) s ≡ true =
    subst (λ z. is_segment z.doc s ≡ true) (sym c.self.view_is) (subst (λ z. is_segment c.args.self.now.doc z ≡ true) (sym c.s.view_is) c.requires) in
    let e = other_end m.frame m.rings.borders m.rings.vertices v.holds.whole s there a c.in-Some.ensures.found in
    on_ok_weaker c.push_names.result (λ names.
    subst (λ (z : Segment). ListsRings c.args.self.now.doc (segment z.lo z.hi) old new) c.s.view_is
    (subst (λ z. ListsRings z.doc (segment s.lo s.hi) old new) c.self.view_is
    (rings_listed m.frame m.rings.borders m.rings.vertices v.holds.whole a e.0 s.lo s.hi c.in-Some.ensures.found e.2
    c.in-Some-users_around.numbers.now (c.in-Some-users_around.ensures e.0 e.1 e.3) old new names)))
    c.push_names.ensures

pub returns-in-None : goal.returns-in-None
returns-in-None g c =
    on_ok_weaker c.push_users.result
    (λ listed. subst (λ (z : Segment). ListsRings c.args.self.now.doc (segment z.lo z.hi) c.args.out.now.items c.push_users.new.out.items) c.s.view_is listed)
    c.push_users.ensures
