-- What a kept map answers on its vertices and on the rings of a segment.
use Rattle.kit_words.proofs.Common.{◌≡◌, ◌≢◌, ℕ, Bool, true, false, refl, sym, ap, ap₂, ◌∙◌, subst, cond, List, [], ◌∷◌}
use Rattle.kit_words.proofs.Common.{length, ◌⊎◌, inl, inr, Option, Some, None, is_some, IfSome, IfNone, filter, is_gt}
use Rattle.kit_words.proofs.Common.{false_from_ne_true}
use Rattle.std.specs.FinMap as table
use Rattle.grid_geometry.specs.Common.{Position, Segment, segment, IsSegment}
use Rattle.ring_machine.specs.Common.{rings, is_vertex}
use Rattle.ring_machine.proofs.Common.{In, in_any}
use Rattle.arc_tables.specs.Rings as shared
use Rattle.vertex_index.specs.Common.{place}
use Rattle.feature_exchange.specs.Common.{Stored, stored_document, IsWhole}
use Rattle.arc_store.specs.Common.{users}
use Rattle.ring_store.proofs.Common.{place_is, place_kept, kept_place}
use Rattle.feature_exchange.proofs.Common.{key_vertex, vertex_key, segment_between, joined_kept, segment_ends}
use Rattle.arc_store.proofs.Insertions.{has_segment, is_segment_by}
use Rattle.arc_store.proofs.Numbers.{users_count}
use Rattle.arc_store.proofs.RingUsers.{users_same}

-- the ends of a segment make it
pub ends_make : (t : Segment) → IsSegment t → segment t.lo t.hi ≡ t
ends_make t h = ap (λ z. cond {A = Segment} (is_gt z) (record { lo = t.hi; hi = t.lo }) (record { lo = t.lo; hi = t.hi })) h

-- no element passes the test
pub none_pass : {A : Type 0} (test : A → Bool) (xs : List A)
    → ((x : A) → In x xs → test x ≡ true → ⊥) → length (filter test xs) ≡ 0
none_pass test [] h = refl
none_pass test (x ∷ xs) h =
    ap (λ b. length (cond b (x ∷ filter test xs) (filter test xs))) (false_from_ne_true _ (h x (inl refl))) ∙ none_pass test xs (λ y i. h y (inr i))

module _ (s : Stored) (w : IsWhole s) where
  -- what has no key is no vertex
  pub no_vertex : (p : Position) → ((k : ℕ) → table.get s.places k ≢ Some p)
      → is_vertex (stored_document s) p ≡ false
  no_vertex p h = false_from_ne_true _ (λ e. let k = vertex_key s w p e in h k.0 k.1)

  -- a position is a vertex where a key is found
  pub found_vertex : (p : Position) (o : Option ℕ) → IfSome o (λ k. table.get s.places k ≡ Some p)
      → IfNone o ((k : ℕ) → table.get s.places k ≢ Some p) → is_some o ≡ is_vertex (stored_document s) p
  found_vertex p (Some k) found absent = sym (key_vertex s w k p found)
  found_vertex p None found absent = sym (no_vertex p absent)

  -- as many rings have a segment as have that of its ends' keys
  pub users_read : (a b : ℕ) (t : Segment) → table.get s.places a ≡ Some t.lo
      → table.get s.places b ≡ Some t.hi → IsSegment t
      → shared.users_of s.rings a b ≡ length (users (stored_document s) t)
  users_read a b t e f h =
      sym (users_same s w a b)
      ∙ sym (users_count s w a b (place_kept s.places a t.lo e) (place_kept s.places b t.hi f))
      ∙ ap (λ z. length (filter (has_segment z) (rings (stored_document s)))) (ap₂ segment (place_is s.places a t.lo e) (place_is s.places b t.hi f) ∙ ends_make t h)

  -- no ring has a segment with an end that has no key
  pub unused_read : (t : Segment) (p : Position) → (t.lo ≡ p) ⊎ (t.hi ≡ p) → (o : Option ℕ) → o ≡ None
      → IfNone o ((k : ℕ) → table.get s.places k ≢ Some p) → 0 ≡ length (users (stored_document s) t)
  unused_read t p end o e h =
      let absent : (k : ℕ) → table.get s.places k ≢ Some p = subst (λ z. IfNone z ((k : ℕ) → table.get s.places k ≢ Some p)) e h in
      sym (none_pass (has_segment t) (rings (stored_document s)) (λ ring i u.
      let b = segment_between s w t (is_segment_by (stored_document s) t ∙ in_any (has_segment t) ring (rings (stored_document s)) i u) in
      let kept = joined_kept s w b.a b.b b.joined in
      let a_is : place s.places b.a ≢ p = λ m. absent b.a (kept_place s.places b.a kept.0 ∙ ap Some m) in
      let b_is : place s.places b.b ≢ p = λ m. absent b.b (kept_place s.places b.b kept.1 ∙ ap Some m) in
      elim (segment_ends (place s.places b.a) (place s.places b.b)) [
        | inl m ↦ elim end [
          | inl n ↦ a_is (sym m.0 ∙ sym (ap (λ (z : Segment). z.lo) b.is) ∙ n)
          | inr n ↦ b_is (sym m.1 ∙ sym (ap (λ (z : Segment). z.hi) b.is) ∙ n)
        ]
        | inr m ↦ elim end [
          | inl n ↦ b_is (sym m.0 ∙ sym (ap (λ (z : Segment). z.lo) b.is) ∙ n)
          | inr n ↦ a_is (sym m.1 ∙ sym (ap (λ (z : Segment). z.hi) b.is) ∙ n)
        ]
      ]))
