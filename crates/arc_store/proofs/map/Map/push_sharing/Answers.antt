use Rattle.kit_words.proofs.Common.{◌≡◌, ◌∙◌, ℕ, [], Some, None, sym, ap, subst, Contains, option_map, unwrap_or}
use Rattle.grid_geometry.specs.Common.{edges}
use Rattle.arc_tables.specs.Common.{ListsSharing}
use Rattle.map_frame.specs.declared.names.RingName.{RingName}
use Rattle.map_frame.specs.Common.{number_at, frame_ring}
use Rattle.feature_exchange.specs.Common.{stored, stored_document, ring_under}
use Rattle.arc_store.specs.Common.{ListsNames, ListsRingNames}
use Rattle.arc_store.proofs.NamedRings.{ring_by_name}
use Rattle.arc_store.proofs.SharedNames.{users_none, sharing_named, sharing_listed}
use Rattle.arc_store.proofs.map.Map.push_sharing.Goals as goal

pub push_names-requires : goal.push_names-requires
push_names-requires g c =
    let m = c.self.inside in
    let v = c.self.invariant in
    let r = c.in-Some.number in
    let numbers = c.push_sharing.new.out.items in
    let l : ListsSharing m.rings.borders r [] numbers = subst (λ z. ListsSharing m.rings.borders r z numbers) c.new-numbers.ensures.items c.in_ok-push_sharing.ensures in
    subst (λ z. (x : ℕ) → Contains z x → (name : RingName) × (number_at m.frame.doc name ≡ Some x)) (sym c.as_slice.ensures.value)
    (sharing_named m.frame m.rings.borders m.rings.vertices v.holds.whole v.holds.formed.numbers r numbers l)

pub returns : goal.returns
returns g c =
    let m = c.self.inside in
    let v = c.self.invariant in
    let r = c.in-Some.number in
    let old = c.args.out.now.items in
    let new = c.push_names.new.out.items in
    let numbers = c.push_sharing.new.out.items in
    let s = stored m.frame m.rings.borders m.rings.vertices in
    let own : RingName = record { feature = c.args.feature; polygon = c.args.polygon; ring = c.args.ring } in
    let is : number_at m.frame.doc own ≡ Some r = sym (sym c.in-Some.is ∙ c.ring.ensures) in
    let l : ListsSharing m.rings.borders r [] numbers = subst (λ z. ListsSharing m.rings.borders r z numbers) c.new-numbers.ensures.items c.in_ok-push_sharing.ensures in
    let names : ListsNames m.frame.doc numbers old new = subst (λ z. ListsNames m.frame.doc z old new) c.as_slice.ensures.value c.in_ok-push_names.ensures in
    let there : frame_ring (stored_document s) own.feature own.polygon own.ring ≡ Some (ring_under s r) =
    ring_by_name m.frame m.rings.borders m.rings.vertices v.holds.whole own ∙ ap (option_map (ring_under s)) is in
    subst (λ z. ListsRingNames z.doc (edges (unwrap_or (frame_ring z.doc c.args.feature c.args.polygon c.args.ring) [])) old new) c.self.view_is
    (subst (λ o. ListsRingNames (stored_document s) (edges (unwrap_or o [])) old new) (sym there)
    (sharing_listed m.frame m.rings.borders m.rings.vertices v.holds.whole own r is numbers l old new names))

pub returns-in_default : goal.returns-in_default
returns-in_default g c =
    let m = c.self.inside in
    let v = c.self.invariant in
    let old = c.args.out.now.items in
    let s = stored m.frame m.rings.borders m.rings.vertices in
    let own : RingName = record { feature = c.args.feature; polygon = c.args.polygon; ring = c.args.ring } in
    let is : number_at m.frame.doc own ≡ None = sym (sym c.in_default.is ∙ c.ring.ensures) in
    let there : frame_ring (stored_document s) own.feature own.polygon own.ring ≡ None =
    ring_by_name m.frame m.rings.borders m.rings.vertices v.holds.whole own ∙ ap (option_map (ring_under s)) is in
    subst (λ z. ListsRingNames z.doc (edges (unwrap_or (frame_ring z.doc c.args.feature c.args.polygon c.args.ring) [])) old old) c.self.view_is
    (subst (λ o. ListsRingNames (stored_document s) (edges (unwrap_or o [])) old old) (sym there) (users_none (stored_document s) old))
