-- The plan of an insertion between two vertices: what comes and goes, and what is kept.
use Rattle.kit_words.proofs.Common.{◌≡◌, ◌≤◌, ◌+◌, ℕ, true, false, sym, ap, ap₂, ◌∙◌, subst, List, [], ◌∷◌, ◌||◌, ◌&&◌}
use Rattle.kit_words.proofs.Common.{inl, inr, arith, Some, ◌≢◌, Option, None, not, false≢true, false_from_ne_true}
use Rattle.std.specs.FinMap as table
use Rattle.std.specs.FinSet as set
use Rattle.grid_geometry.specs.Common.{Position, Segment, segment, segment_eq}
use Rattle.grid_geometry.proofs.Common.{segment-comm}
use Rattle.ring_machine.specs.Common.{has, Document, size, is_vertex, is_segment, first_of, insert_refusals, ins}
use Rattle.ring_machine.proofs.Common.{In, has-in, segment_ordered, any_in}
use Rattle.vertex_index.specs.Common.{Placement}
use Rattle.segment_index.specs.Candidates.{SegmentSet, AreSingle, segment_is, has as has_segment}
use Rattle.segment_index.specs.Frames.{Frame as GridFrame}
use Rattle.segment_index.proofs.Common.{same_segment}
use Rattle.arc_tables.specs.Common.{Rings, users_of}
use Rattle.map_frame.specs.Common.{Framed}
use Rattle.arc_store.specs.Common.{IsInsertable, IsPlaceable, IsKept, state_of, State}
use Rattle.ring_store.specs.Common.{IsParting, PutBetween, AreNew, Exchanges, spokes}
use Rattle.feature_exchange.specs.Common.{IsIndexed, stored, Stored, stored_document}
use Rattle.edit_records.specs.Common.{Record}
use Rattle.arc_store.proofs.Accepted.{insert_may}
use Rattle.arc_store.proofs.Around.{come_over}
use Rattle.feature_exchange.proofs.Common.{vertex_key, two_ends}
use Rattle.arc_store.proofs.Indexed.{end_vertex}
use Rattle.arc_store.proofs.Inserted.{Insertion, document_inserted, reindexed_inserted, holds_inserted, size_inserted}
use Rattle.arc_store.proofs.Insertions.{Comes}
use Rattle.arc_store.proofs.RingUsers.{users_same}

-- ---- lists of one and of two

pub one_single : (x : Segment) → AreSingle (x ∷ [])
one_single x t = grind arith

pub two_single : (x y : Segment) → segment_eq x y ≡ false → AreSingle (x ∷ y ∷ [])
two_single x y d t = grind (arith, apart)
  where
    apart : segment_is t x ≡ true → segment_is t y ≡ true → ⊥
    apart e f = false≢true (sym d ∙ ap₂ segment_eq (sym (same_segment t x e)) (sym (same_segment t y f)) ∙ segment_ordered.eq-refl t)

module _ {frame : Framed} {rings : Rings} {places : Placement} {held : SegmentSet} {positions : ℕ} (kept : IsKept frame rings places held positions)
    {l : ℕ} {cells : Option GridFrame} {o : Option Record} {now : State} (is : state_of frame rings places l cells o ≡ now)
    (a b q : Position) (border : is_segment now.doc (segment a b) ≡ true) (free : is_vertex now.doc q ≡ false) where
  abbrev d : Document
  d = stored_document (stored frame rings places)

  has_border : is_segment d (segment a b) ≡ true
  has_border = ap (λ (s : State). is_segment s.doc (segment a b)) is ∙ border

  is_free : is_vertex d q ≡ false
  is_free = ap (λ (s : State). is_vertex s.doc q) is ∙ free

  -- the ends of the segment have keys
  pub first_key : (j : ℕ) × (table.get places j ≡ Some a)
  first_key = vertex_key (stored frame rings places) kept.holds.whole a (end_vertex d a (segment a b) has_border (two_ends a b).0)

  pub second_key : (k : ℕ) × (table.get places k ≡ Some b)
  second_key = vertex_key (stored frame rings places) kept.holds.whole b (end_vertex d b (segment a b) has_border (two_ends a b).1)

  come : Comes d (segment a q) (segment q b)
  come = come_over (stored frame rings places) kept.holds.whole a b q has_border is_free

  -- q is neither end
  pub insert_off : has (a ∷ b ∷ []) q ≡ false
  insert_off = false_from_ne_true _ (λ e. elim (has-in q (a ∷ b ∷ []) e) [
    | inl m ↦ other a (end_vertex d a (segment a b) has_border (two_ends a b).0) m
    | inr n ↦ elim n [ inl m ↦ other b (end_vertex d b (segment a b) has_border (two_ends a b).1) m | inr m ↦ m ]
  ])
    where
      other : (x : Position) → is_vertex d x ≡ true → x ≡ q → ⊥
      other x v e = false≢true (sym is_free ∙ ap (is_vertex d) (sym e) ∙ v)

  -- the segments that come are new, and two
  module _ {after : List Segment} (comes : after ≡ spokes q (a ∷ b ∷ [])) where
    pub insert_new : AreNew held after
    insert_new = subst (AreNew held) (sym comes) (λ t i.
        let u = any_in (segment_is t) (spokes q (a ∷ b ∷ [])) i in
        kept.holds.indexed t ∙ ap (is_segment d) (same_segment t u.0 u.2) ∙ new u.0 u.1)
      where
        new : (z : Segment) → In z (spokes q (a ∷ b ∷ [])) → is_segment d z ≡ false
        new z (inl e) = ap (is_segment d) (sym e) ∙ come.first_new
        new z (inr (inl e)) = ap (is_segment d) (sym e ∙ segment-comm b q) ∙ come.second_new
        new z (inr (inr e)) = absurd e

    pub insert_single : AreSingle after
    insert_single =
        subst AreSingle (ap (λ z. segment a q ∷ z ∷ []) (sym (segment-comm b q)) ∙ sym comes)
        (two_single (segment a q) (segment q b) come.two)

  module _ (small : size (ins now.doc a b q) ≤ 4000000) where
    pub insertable : IsInsertable d held a b q
    insertable = record {
      indexed = kept.holds.indexed;
      border = has_border;
      free = is_free;
      small = subst (λ (s : State). size (ins s.doc a b q) ≤ 4000000) (sym is) small;
    }

    -- where the tests accept it, q may come
    pub insert_passes : a ≢ b → ((e : Document) → IsInsertable e held a b q → first_of (insert_refusals e a b q) ≡ None)
        → IsPlaceable d a b q
    insert_passes apart accepted = insert_may d a b q apart insertable.small (accepted d insertable)

-- ---- the map

-- an insertion keeps what is true of the tables
module _ {frame : Framed} {rings rings' : Rings} {places places' : Placement} {held : SegmentSet} {positions : ℕ} (h : IsKept frame rings places held positions)
    {j k : ℕ} {a b q : Position} {before : Segment} {read : List Segment} (r : IsParting places a b q j k before read)
    (may : IsPlaceable (stored_document (stored frame rings places)) a b q) (put : PutBetween places places' rings rings' j k q) where
  abbrev was : Stored
  was = stored frame rings places

  insertion : Insertion was rings' j k put.key a b q
  insertion = record { first = r.first; second = r.second; new = put.new; edited = put.edited; may = may }

  made : stored_document (stored frame rings' (table.insert places put.key q)) ≡ ins (stored_document was) a b q
  made = document_inserted was rings' j k put.key a b q h.holds.whole h.holds.proper insertion

  -- the document is the one with q between a and b
  pub doc_inserted : stored_document (stored frame rings' places') ≡ ins (stored_document was) a b q
  doc_inserted = ap (λ z. stored_document (stored frame rings' z)) put.placed ∙ made

  module _ {count : ℕ} (users : count ≡ users_of rings j k) where
    -- how the size grows
    pub size_grows : size (ins (stored_document was) a b q) ≡ positions + count
    size_grows = omega (arith, users, h.sized, users_same was h.holds.whole j k, size_inserted was rings' j k put.key a b q h.holds.whole h.holds.proper insertion)

    module _ (held' : SegmentSet) {after : List Segment} (same : after ≡ read) (e : Exchanges held after (before ∷ []) held') where
      indexed : IsIndexed (ins (stored_document was) a b q) held'
      indexed =
          reindexed_inserted was rings' j k put.key a b q h.holds.whole h.holds.proper insertion held held' h.holds.indexed (λ t.
          e t ∙ ap₂ (λ x y. (set.contains held t || has_segment x t) && not (has_segment (y ∷ []) t))
          (same ∙ r.comes ∙ ap (λ z. segment a q ∷ z ∷ []) (segment-comm b q)) r.goes)

      pub kept_inserted : IsKept frame rings' places' held' (positions + count)
      kept_inserted =
          subst (λ z. IsKept frame rings' z held' (positions + count)) (sym put.placed) (record {
            holds = holds_inserted was held held' rings' j k put.key a b q h.holds insertion indexed;
            sized = sym size_grows ∙ sym (ap size made);
          })
