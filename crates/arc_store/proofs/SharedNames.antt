-- The rings that have a segment in common with a ring, by their names.
use Rattle.kit_words.proofs.Common.{◌≡◌, ℕ, true, sym, ap, ◌∙◌, subst, List, [], map, Contains, Some, is_some, arith}
use Rattle.kit_words.proofs.Common.{append-nil}
use Rattle.grid_geometry.specs.Common.{Position, segment, segment_eq}
use Rattle.grid_geometry.specs.Ring as geometry
use Rattle.ring_machine.specs.Common.{Document, rings, features, is_segment, segment_of, segments, are_distinct}
use Rattle.ring_machine.proofs.Common.{In, contains_in, in_contains, in_mapped, any_in, in_any, in-map, segment_ordered}
use Rattle.ring_machine.proofs.Common.{segment_eq-true}
use Rattle.vertex_index.specs.Common.{Placement, place}
use Rattle.arc_tables.specs.Common.{Rings, HasSegment, HaveCommon, ListsSharing}
use Rattle.map_frame.specs.Common.{Framed, number_at}
use Rattle.map_frame.specs.declared.names.RingName.{RingName}
use Rattle.ring_store.proofs.Common.{IsKept, kept_place}
use Rattle.feature_exchange.specs.Common.{IsWhole, stored, Stored, stored_document, ring_under}
use Rattle.feature_exchange.proofs.Common.{framed, rings_are, segment_between, joined_kept}
use Rattle.arc_store.specs.Common.{ListsNames, RingHas, HasOne, ListsRingNames}
use Rattle.arc_store.proofs.FrameNames.{name_there, number_there}
use Rattle.arc_store.proofs.Insertions.{has_segment, is_segment_by}
use Rattle.arc_store.proofs.NamedRings.{has_of, of_has, of_name, to_name}
use Rattle.arc_store.proofs.Numbers.{any_times, ring_has}

-- no edge has a ring
pub users_none : (d : Document) (old : List RingName) → ListsRingNames d [] old old
users_none d old = record {
  found = [];
  appended = sym (append-nil old);
  all = λ name. (λ c. absurd (omega (arith, c.1)), λ h. absurd (contains_in [] h.edge h.there));
}

module _ (f : Framed) (m : Rings) (places : Placement) (whole : IsWhole (stored f m places)) where
  abbrev s : Stored
  s = stored f m places

  -- each ring that was listed has a name
  pub sharing_named : are_distinct (map (λ x. x.number) (features f.doc)) ≡ true → (r : ℕ) (numbers : List ℕ)
      → ListsSharing m r [] numbers → (x : ℕ) → Contains numbers x → (name : RingName) × (number_at f.doc name ≡ Some x)
  sharing_named distinct r numbers l x c =
      let h = (l.all x).0 (subst (λ z. Contains z x) l.appended c) in
      name_there f.doc distinct x (contains_in (rings f.doc) x ((whole.named x).1 (ap is_some h.other.held)))

  module _ (own : RingName) (r : ℕ) (is : number_at f.doc own ≡ Some r) where
    abbrev ring : List Position
    ring = ring_under s r

    abbrev es : List geometry.Edge
    es = geometry.edges ring

    both_kept : (a b : ℕ) → HasSegment m a b r → IsKept places a × IsKept places b
    both_kept a b h = joined_kept s whole a b (record { ring = r; edges = h.edges; held = h.held; has = (any_times a b h.edges).0 h.has })

    -- a ring with a segment in common has that of one of the edges
    one_of : (name : RingName) (x : ℕ) → number_at f.doc name ≡ Some x → HaveCommon m r x → HasOne (stored_document s) es name
    one_of name x e h =
        let kept = both_kept h.a h.b h.one in
        let t = segment (place places h.a) (place places h.b) in
        let other : RingHas (stored_document s) t name =
        has_of f m places whole h.a h.b (place places h.a) (place places h.b) (kept_place places h.a kept.0) (kept_place places h.b kept.1) name x e h.other in
        let mine : has_segment t ring ≡ true = ring_has s whole h.a h.b kept.0 kept.1 r h.one.edges h.one.held ∙ h.one.has in
        let u = any_in (segment_eq t) (segments ring) mine in
        let k = in_mapped segment_of u.0 es u.1 in
        record {
          edge = k.0;
          there = in_contains es k.0 k.1;
          has = subst (λ z. RingHas (stored_document s) z name) (segment_eq-true t u.0 u.2 ∙ sym k.2) other;
        }

    -- a ring with the segment of one of the edges has a segment in common
    common_of : (name : RingName) → HasOne (stored_document s) es name
        → (x : ℕ) × (number_at f.doc name ≡ Some x) × HaveCommon m r x
    common_of name h =
        let t = segment h.edge.0 h.edge.1 in
        let number : In r (rings f.doc) = number_there f.doc own r is in
        let mine : has_segment t ring ≡ true =
        in_any (segment_eq t) t (segments ring) (in-map segment_of h.edge es (contains_in es h.edge h.there)) (segment_ordered.eq-refl t) in
        let there : In ring (rings (stored_document s)) = subst (In ring) (sym (rings_are s whole)) (in-map (ring_under s) r (rings f.doc) number) in
        let listed : is_segment (stored_document s) t ≡ true =
        is_segment_by (stored_document s) t ∙ in_any (has_segment t) ring (rings (stored_document s)) there mine in
        let b = segment_between s whole t listed in
        let kept = joined_kept s whole b.a b.b b.joined in
        let other = of_has f m places whole b.a b.b (place places b.a) (place places b.b) (kept_place places b.a kept.0) (kept_place places b.b kept.1) name
        (subst (λ z. RingHas (stored_document s) z name) b.is h.has) in
        let held = framed s whole r number in (
          other.0,
          other.1,
          record {
            a = b.a;
            b = b.b;
            one = record {
              edges = held.0;
              held = held.1;
              has = sym (ring_has s whole b.a b.b kept.0 kept.1 r held.0 held.1) ∙ ap (λ z. has_segment z ring) (sym b.is) ∙ mine;
            };
            other = other.2;
          },
        )

    -- the names of the rings that were listed
    pub sharing_listed : (numbers : List ℕ) → ListsSharing m r [] numbers → (old new : List RingName)
        → ListsNames f.doc numbers old new → ListsRingNames (stored_document s) es old new
    sharing_listed numbers l old new names = record {
      found = names.found;
      appended = names.appended;
      all = λ n. (
        λ c. let k = of_name f.doc names.found numbers names.are n (contains_in names.found n c) in
            one_of n k.0 k.2 ((l.all k.0).0 (in_contains l.found k.0 (subst (In k.0) l.appended k.1))),
        λ h. let k = common_of n h in
            in_contains names.found n (to_name f.doc whole.once names.found numbers names.are n k.0 k.1
            (subst (In k.0) (sym l.appended) (contains_in l.found k.0 ((l.all k.0).1 k.2)))),
      );
    }
