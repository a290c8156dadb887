use Rattle.kit_words.proofs.Common.{◌≡◌, ℕ, [], Some, sym, subst, Contains}
use Rattle.grid_geometry.specs.Common.{segment}
use Rattle.arc_tables.specs.Common.{ListsUsers}
use Rattle.map_frame.specs.declared.names.RingName.{RingName}
use Rattle.map_frame.specs.Common.{number_at}
use Rattle.arc_store.specs.Common.{ListsNames, ListsRings}
use Rattle.arc_store.proofs.NamedRings.{listed_names, rings_listed, none_from, none_to}
use Rattle.arc_store.proofs.map.Map.push_users.Goals as goal

pub push_names-requires : goal.push_names-requires
push_names-requires g c =
    let m = c.self.inside in
    let v = c.self.invariant in
    let numbers = c.push_users.new.out.items in
    let a = c.in-Some.a in
    let b = c.in-Some-key_beside.b in
    let l : ListsUsers m.rings.borders a b [] numbers = subst (λ z. ListsUsers m.rings.borders a b z numbers) c.new-numbers.ensures.items c.in_ok-push_users.ensures in
    subst (λ z. (r : ℕ) → Contains z r → (name : RingName) × (number_at m.frame.doc name ≡ Some r)) (sym c.as_slice.ensures.value)
    (listed_names m.frame m.rings.borders m.rings.vertices v.holds.whole a b c.args.a c.args.b c.in-Some.ensures.found c.in-Some-key_beside.ensures.found v.holds.formed.numbers numbers l)

pub returns : goal.returns
returns g c =
    let m = c.self.inside in
    let v = c.self.invariant in
    let old = c.args.out.now.items in
    let new = c.push_names.new.out.items in
    let numbers = c.push_users.new.out.items in
    let a = c.in-Some.a in
    let b = c.in-Some-key_beside.b in
    let l : ListsUsers m.rings.borders a b [] numbers = subst (λ z. ListsUsers m.rings.borders a b z numbers) c.new-numbers.ensures.items c.in_ok-push_users.ensures in
    let names : ListsNames m.frame.doc numbers old new = subst (λ z. ListsNames m.frame.doc z old new) c.as_slice.ensures.value c.in_ok-push_names.ensures in
    subst (λ z. ListsRings z.doc (segment c.args.a c.args.b) old new) c.self.view_is
    (rings_listed m.frame m.rings.borders m.rings.vertices v.holds.whole a b c.args.a c.args.b c.in-Some.ensures.found c.in-Some-key_beside.ensures.found numbers l old new names)

pub returns-in_default-key_beside : goal.returns-in_default-key_beside
returns-in_default-key_beside g c =
    let m = c.self.inside in
    let v = c.self.invariant in
    let old = c.args.out.now.items in
    subst (λ z. ListsRings z.doc (segment c.args.a c.args.b) old old) c.self.view_is
    (none_to m.frame m.rings.borders m.rings.vertices v.holds.whole c.args.a c.args.b c.key_beside.result c.in_default-key_beside.is c.key_beside.ensures.absent old)

pub returns-in_default : goal.returns-in_default
returns-in_default g c =
    let m = c.self.inside in
    let v = c.self.invariant in
    let old = c.args.out.now.items in
    subst (λ z. ListsRings z.doc (segment c.args.a c.args.b) old old) c.self.view_is
    (none_from m.frame m.rings.borders m.rings.vertices v.holds.whole c.args.a c.args.b c.key_of.result c.in_default.is c.key_of.ensures.absent old)
