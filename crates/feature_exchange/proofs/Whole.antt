-- A map that is kept: its tables stand, and tables that stand make it whole.
use Rattle.kit_words.proofs.Common.{◌≡◌, ◌≤◌, ◌↔◌, ℕ, true, refl, sym, ap, ap₂, ◌∙◌, subst, inl, inr, is_some, ◌-◌}
use Rattle.kit_words.proofs.Common.{Contains, IsTrue}
use Rattle.std.specs.FinMap as table
use Rattle.std.specs.FinSet as set
use Rattle.grid_geometry.specs.Common.{Segment, segment}
use Rattle.grid_geometry.proofs.Common.{segment-comm}
use Rattle.ring_machine.specs.Common.{rings, size, is_segment, Proper, are_distinct, WellFormed}
use Rattle.ring_machine.proofs.Common.{contains_in, in_contains, same_answer}
use Rattle.topo_outline.specs.Common.{KeepsTexts}
use Rattle.vertex_index.specs.Common.{place}
use Rattle.segment_index.specs.Common.{SegmentSet, has}
use Rattle.ring_store.proofs.Common.{times_edge, edge_times}
use Rattle.ring_store.specs.Common.{IsSide, Stands}
use Rattle.feature_exchange.specs.Common.{IsWhole, Holds, Stored, stored_document}
use Rattle.feature_exchange.proofs.Base.{segment_between, segment_iff}

-- ---- segments of the document are sides of the rings

module _ (s : Stored) (whole : IsWhole s) (t : Segment) where
  segment_side : is_segment (stored_document s) t ≡ true → IsSide s.places s.rings t
  segment_side h =
      let b = segment_between s whole t h in
      let e = times_edge b.a b.b b.joined.edges b.joined.has in
      record {
        ring = b.joined.ring;
        edges = b.joined.edges;
        held = b.joined.held;
        edge = e.0;
        among = in_contains b.joined.edges e.0 e.1;
        is = b.is ∙ elim e.2 [
          | inl m ↦ sym (ap₂ (λ x y. segment (place s.places x) (place s.places y)) m.0 m.1)
          | inr m ↦
              segment-comm (place s.places b.a) (place s.places b.b)
              ∙ sym (ap₂ (λ x y. segment (place s.places x) (place s.places y)) m.0 m.1)
        ];
      }

  side_segment : IsSide s.places s.rings t → is_segment (stored_document s) t ≡ true
  side_segment a =
      let i = contains_in a.edges a.edge a.among in
      (segment_iff s whole t).1 (record {
        a = a.edge.0;
        b = a.edge.1;
        joined = record { ring = a.ring; edges = a.edges; held = a.held; has = edge_times a.edge.0 a.edge.1 a.edges a.edge i (inl (refl, refl)) };
        is = a.is;
      })

-- ---- the tables of a map stand

pub tables_stand : (s : Stored) (held : SegmentSet) → Holds s held → Stands s.places s.rings held
tables_stand s held h = record {
  round = h.whole.round;
  placed = λ k v. h.whole.placed v.ring k (v.edges, v.held, v.visited);
  passed = λ k c.
      let v = h.whole.passed k c in
      record { ring = v.0; edges = v.1.0; held = v.1.1; visited = v.1.2 };
  distinct = h.whole.distinct;
  indexed = λ t. (
    λ i. segment_side s h.whole t (sym (h.indexed t) ∙ i),
    λ a. h.indexed t ∙ side_segment s h.whole t a,
  );
}

-- ---- and where they stand, with a frame that names each ring once, the map is kept

module _ (s : Stored) (held : SegmentSet) (stands : Stands s.places s.rings held)
    (named : (r : ℕ) → Contains (rings s.frame) r ↔ IsTrue (is_some (table.get s.rings r)))
    (once : are_distinct (rings s.frame) ≡ true) where
  whole_of : IsWhole s
  whole_of = record {
    named = named;
    once = once;
    round = stands.round;
    placed = λ r k v. stands.placed k (record { ring = r; edges = v.0; held = v.1; visited = v.2 });
    passed = λ k c. let v = stands.passed k c in (v.ring, (v.edges, v.held, v.visited));
    distinct = stands.distinct;
  }

  pub map_holds : WellFormed s.frame → KeepsTexts s.frame → Proper (stored_document s)
      → size (stored_document s) ≤ 4000000 → Holds s held
  map_holds formed keeps proper small = record {
    whole = whole_of;
    formed = formed;
    keeps = keeps;
    proper = proper;
    small = small;
    indexed = λ t. same_answer (set.contains held t) (is_segment (stored_document s) t)
        (λ i. side_segment s whole_of t ((stands.indexed t).0 i))
        (λ i. (stands.indexed t).1 (segment_side s whole_of t i));
  }

-- ---- nothing changed

pub map_unchanged : (old new : Stored) (h j : SegmentSet) → Holds old h → new.frame ≡ old.frame
    → new.rings ≡ old.rings → new.places ≡ old.places → j ≡ h
    → (stored_document new ≡ stored_document old) × Holds new j
map_unchanged old new h j holds frame rings places held =
    let same : new ≡ old = λ i. record { frame = frame i; rings = rings i; places = places i } in
    (ap stored_document same, subst (λ z. Holds z j) (sym same) (subst (Holds old) (sym held) holds))
