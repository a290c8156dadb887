-- The plan of a move: what stands around the vertex, what comes and goes, and when it is refused.
use Rattle.kit_words.proofs.Common.{◌≡◌, ℕ, Bool, true, false, sym, ap, ap₂, ◌∙◌, subst, List, [], ◌∷◌, map, ◌||◌, ◌&&◌}
use Rattle.kit_words.proofs.Common.{Some, None, Option, Result, Ok, Err, OnOk, OnErr, not, list_any, map-map, and_parts}
use Rattle.std.specs.FinMap as table
use Rattle.std.specs.FinSet as set
use Rattle.grid_geometry.specs.Common.{Position, Segment, segment, is_end}
use Rattle.ring_machine.specs.Common.{Document, Refusal, NoVertex, Occupied, Sweeps, is_vertex, is_segment, positions}
use Rattle.ring_machine.specs.Common.{all_segments, least_conflict, first_pair, first_of, conflict_of, move_refusals}
use Rattle.ring_machine.specs.Common.{◌unless◌, crosses_on_way, edge_sweeps, move_sweeps, put}
use Rattle.ring_machine.proofs.Common.{any_in, in_contains}
use Rattle.vertex_index.specs.Common.{Placement, place}
use Rattle.segment_index.specs.Candidates.{SegmentSet, AreAmong, AreSingle, segment_is, has as has_segment}
use Rattle.segment_index.proofs.Common.{same_segment}
use Rattle.arc_tables.specs.Common.{Rings}
use Rattle.local_planarity.specs.declared.leaving.Leaving.TheVariants.{EndingAt}
use Rattle.local_planarity.specs.Common.{NoneConflict, IsAfter, IsEnds, IsHeld}
use Rattle.local_planarity.proofs.Least.{apart_if_none}
use Rattle.arc_store.specs.Common.{EditFault, IsMovable, Refuses, IsKept}
use Rattle.arc_store.specs.declared.fault.EditFault.TheVariants as edit
use Rattle.map_frame.specs.Common.{Framed}
use Rattle.ring_store.specs.Common.{HasMoving, AreAround, AreNew, Exchanges, spokes}
use Rattle.ring_store.specs.declared.tables.RingTables.{RingTables}
use Rattle.feature_exchange.specs.Common.{Stored, stored_document, stored, stored_in, IsWhole, IsIndexed, Holds}
use Rattle.ring_store.proofs.Common.{place_is, has-eq}
use Rattle.feature_exchange.proofs.Common.{joined_kept, joined_apart, segments_to, segments_at, vertex_key}
use Rattle.feature_exchange.proofs.Common.{sweeps_by_joined}
use Rattle.arc_store.proofs.Indexed.{indexed_ends, indexed_has}
use Rattle.arc_store.proofs.Insertions.{any_mapped}
use Rattle.arc_store.proofs.Moved.{segments_to_single, not_there, added_new, added_single}
use Rattle.arc_store.proofs.Moved.{indexed_moved, reindexed, holds_moved, size_moved, document_moved}

-- ---- what stands around a vertex

-- p is a vertex and q is none
pub has_moving : (s : Stored) → IsWhole s → (p q : Position) → is_vertex (stored_document s) p ≡ true
    → is_vertex (stored_document s) q ≡ false → HasMoving s.places s.rings p q
has_moving s w p q vertex free = record {
  here = vertex_key s w p vertex;
  placed = λ k at x j. (joined_kept s w k x j).1;
  apart = λ k x at j. (
    λ e. joined_apart s w k x j (place_is s.places k p at ∙ sym e),
    not_there s w k p q at free x (joined_kept s w k x j).1,
  );
}

module _ (s : Stored) (held : SegmentSet) (h : Holds s held) (k : ℕ) (p q : Position) (at : table.get s.places k ≡ Some p) (free : is_vertex (stored_document s) q ≡ false) (around : List Position) (r : AreAround s.places s.rings k around) where
  spokes_are : (z : Position) → spokes z around ≡ segments_to s.places z r.keys
  spokes_are z = ap (map (λ x. segment x z)) r.are ∙ map-map (λ x. segment x z) (place s.places) r.keys

  -- ---- what comes and goes

  pub plan_new : AreNew held (spokes q around)
  plan_new t i =
      let u = any_in (segment_is t) (segments_to s.places q r.keys) (subst (λ z. has_segment z t ≡ true) (spokes_are q) i) in
      h.indexed t ∙ ap (is_segment (stored_document s)) (same_segment t u.0 u.2) ∙ added_new s h.whole k p q at free r.keys u.0 u.1

  pub plan_single : AreSingle (spokes q around)
  plan_single = subst AreSingle (sym (spokes_are q)) (added_single s h.whole k p q at free r.keys r.joined r.once)

  pub plan_held : AreAmong held (spokes p around)
  plan_held t i =
      h.indexed t
      ∙ (and_parts (is_segment (stored_document s) t) (is_end p t)
      (segments_at s h.whole k p at r.keys r.joined t ∙ sym (has-eq (segments_to s.places p r.keys) t) ∙ subst (λ z. has_segment z t ≡ true) (spokes_are p) i)).0

  pub plan_once : AreSingle (spokes p around)
  plan_once =
      subst AreSingle (sym (spokes_are p))
      (segments_to_single s.places p h.whole.distinct r.keys (λ x i. (joined_kept s h.whole k x ((r.joined x).0 (in_contains r.keys x i))).1) r.once)

  -- the segments of the moved document are there after the edit
  pub plan_after : IsAfter held (EndingAt p) (spokes q around) (all_segments (put (stored_document s) p q))
  plan_after t =
      indexed_moved s h.whole k p q at free r.keys r.joined held h.indexed t
      ∙ ap (λ z. (set.contains held t && not (is_end p t)) || has_segment z t) (sym (spokes_are q))

  -- what the positions around p say of the sweep
  plan_sweeps :
      (list_any (edge_sweeps (stored_document s) p q) around || crosses_on_way (stored_document s) p q)
      ≡ move_sweeps (stored_document s) p q
  plan_sweeps =
      ap (λ b. b || crosses_on_way (stored_document s) p q)
      (ap (list_any (edge_sweeps (stored_document s) p q)) r.are ∙ any_mapped (place s.places) (edge_sweeps (stored_document s) p q) r.keys)
      ∙ sym (sweeps_by_joined s h.whole k p at r.keys r.joined q)

  -- the index holds the segments of the moved document
  plan_indexed : (held' : SegmentSet) → Exchanges held (spokes q around) (spokes p around) held'
      → IsIndexed (put (stored_document s) p q) held'
  plan_indexed held' e =
      reindexed s h.whole k p q at free r.keys r.joined held held' h.indexed (λ t.
      e t ∙ ap₂ (λ y z. (set.contains held t || has_segment y t) && not (has_segment z t)) (spokes_are q) (spokes_are p))

-- ---- the map

-- a move keeps what is true of the tables
kept_moved : (frame : Framed) (rings : Rings) (places : Placement) (held held' : SegmentSet)
    (size_kept : ℕ) → IsKept frame rings places held size_kept
    → (k : ℕ) (p q : Position) → table.get places k ≡ Some p
    → IsMovable (stored_document (stored frame rings places)) p q
    → (around : List Position) → AreAround places rings k around
    → Exchanges held (spokes q around) (spokes p around) held'
    → IsKept frame rings (table.insert places k q) held' size_kept
kept_moved frame rings places held held' size_kept h k p q at may around r e =
    let s = stored frame rings places in
    record {
      holds = holds_moved s held held' k p q h.holds at may (plan_indexed s held h.holds k p q at may.free around r held' e);
      sized = h.sized ∙ sym (size_moved s h.holds.whole k p q at may.free);
    }

-- ---- refusals

-- of a vertex that moves to where none stands
move_first : (d : Document) (p q : Position) → is_vertex d p ≡ true → is_vertex d q ≡ false
    → first_of (move_refusals d p q)
    ≡ first_of (conflict_of (least_conflict (all_segments (put d p q))) ∷ (Sweeps unless not (move_sweeps d p q)) ∷ [])
unfolding move_refusals first_pair
move_first d p q v f =
    ap₂ (λ a b. first_of ((NoVertex unless a) ∷ (Occupied unless not b) ∷ conflict_of (least_conflict (all_segments (put d p q))) ∷ (Sweeps unless not (move_sweeps d p q)) ∷ [])) v f

-- a fault that names the first of two refusals, or says nothing, fits both
pub refuses_first : (fault : EditFault) (o : Option Refusal) (os : List (Option Refusal))
    → Refuses fault o → Refuses fault (first_of (o ∷ os))
refuses_first fault (Some x) os h = h
refuses_first edit.OutOfMemory None os h = tt
refuses_first fault None os h = absurd cc

move_refuses : (d : Document) (p q : Position) → is_vertex d p ≡ true → is_vertex d q ≡ false
    → (fault : EditFault) → Refuses fault (conflict_of (least_conflict (all_segments (put d p q))))
    → Refuses fault (first_of (move_refusals d p q))
move_refuses d p q v f fault h =
    subst (Refuses fault) (sym (move_first d p q v f))
    (refuses_first fault (conflict_of (least_conflict (all_segments (put d p q)))) ((Sweeps unless not (move_sweeps d p q)) ∷ []) h)

-- ---- the tests of a move, as the code makes them

-- no two held segments conflict
pub held_apart : (s : Stored) (held : SegmentSet) → Holds s held → NoneConflict held
unfolding first_pair
held_apart s held h =
    apart_if_none held (all_segments (stored_document s)) (indexed_has (stored_document s) held h.indexed) h.proper.apart

module _ (s : Stored) (held : SegmentSet) (h : Holds s held) (d : Document) (is : stored_document s ≡ d) (k : ℕ) (p q : Position) (at : table.get s.places k ≡ Some p) (vertex : is_vertex d p ≡ true) (free : is_vertex d q ≡ false) (around : List Position) (r : AreAround s.places s.rings k around) (after : List Segment) (comes : after ≡ spokes q around) where
  was_free : is_vertex (stored_document s) q ≡ false
  was_free = ap (λ z. is_vertex z q) is ∙ free

  passed : IsAfter held (EndingAt p) after (all_segments (put d p q))
  passed =
      subst (λ z. IsAfter held (EndingAt p) z (all_segments (put d p q))) (sym comes)
      (subst (λ z. IsAfter held (EndingAt p) (spokes q around) (all_segments (put z p q))) is (plan_after s held h k p q at was_free around r))

  -- the fault of the first pair in conflict
  pub move_conflicts : (fault : EditFault)
      → ((ss : List Segment) → IsAfter held (EndingAt p) after ss → Refuses fault (conflict_of (least_conflict ss)))
      → Refuses fault (first_of (move_refusals d p q))
  move_conflicts fault f = move_refuses d p q vertex free fault (f (all_segments (put d p q)) passed)

  -- where no two are in conflict, what was found to be swept over decides
  pub move_decided : (seen : List Position) → seen ≡ around → (found : Bool)
      → ((ss : List Segment) → IsAfter held (EndingAt p) after ss → least_conflict ss ≡ None)
      → ((e : Document) → IsEnds held (positions e) → IsHeld held (all_segments e) → found ≡ (list_any (edge_sweeps e p q) seen || crosses_on_way e p q))
      → first_of (move_refusals d p q) ≡ first_of ((Sweeps unless not found) ∷ [])
  move_decided seen all found f g =
      move_first d p q vertex free
      ∙ ap₂ (λ o b. first_of (conflict_of o ∷ (Sweeps unless not b) ∷ [])) (f (all_segments (put d p q)) passed)
      (sym (g (stored_document s) (indexed_ends (stored_document s) held h.indexed) (indexed_has (stored_document s) held h.indexed) ∙ ap (λ z. list_any (edge_sweeps (stored_document s) p q) z || crosses_on_way (stored_document s) p q) all
      ∙ plan_sweeps s held h k p q at was_free around r ∙ ap (λ z. move_sweeps z p q) is))

-- ---- the map after the last call of a move

-- the document is the moved one
pub document_after : {I A : Type 0} (frame : Framed) (t u : RingTables I A) → IsWhole (stored_in frame t) → (d : Document)
    → stored_document (stored_in frame t) ≡ d → (k : ℕ) (p q : Position)
    → table.get t.vertices k ≡ Some p → is_vertex d q ≡ false → u.borders ≡ t.borders → u.vertices ≡ table.insert t.vertices k q
    → stored_document (stored_in frame u) ≡ put d p q
document_after frame t u w d is k p q at free same moved =
    ap₂ (λ y z. stored_document (stored frame y z)) same moved
    ∙ document_moved (stored_in frame t) w k p q at (ap (λ z. is_vertex z q) is ∙ free) ∙ ap (λ z. put z p q) is

-- what is true of the tables stays, whether the call fails or not
pub kept_after : {X E I A : Type 0} (result : Result X E) (frame : Framed) (t u : RingTables I A) (size_kept : ℕ)
    → IsKept frame t.borders t.vertices t.index.held size_kept → (d : Document)
    → stored_document (stored_in frame t) ≡ d → (k : ℕ) (p q : Position)
    → table.get t.vertices k ≡ Some p → IsMovable d p q
    → (around : List Position) → AreAround t.vertices t.borders k around
    → (added gone : List Segment) → added ≡ spokes q around → gone ≡ spokes p around
    → OnOk result (u.vertices ≡ table.insert t.vertices k q) → OnOk result (Exchanges t.index.held added gone u.index.held)
    → u.borders ≡ t.borders → OnErr result (u ≡ t)
    → IsKept frame u.borders u.vertices u.index.held size_kept
kept_after (Ok x) frame t u size_kept h d is k p q at may around r added gone comes goes moved exchanged same unchanged =
    subst (λ b. IsKept frame b u.vertices u.index.held size_kept) (sym same)
    (subst (λ z. IsKept frame t.borders z u.index.held size_kept) (sym moved) (kept_moved frame t.borders t.vertices t.index.held u.index.held size_kept h k p q at (subst (λ z. IsMovable z p q) (sym is) may) around r
    (λ s. exchanged s ∙ ap₂ (λ y z. (set.contains t.index.held s || has_segment y s) && not (has_segment z s)) comes goes)))
kept_after (Err e) frame t u size_kept h d is k p q at may around r added gone comes goes moved exchanged same unchanged =
    subst (λ z. IsKept frame z.borders z.vertices z.index.held size_kept) (sym unchanged) h
