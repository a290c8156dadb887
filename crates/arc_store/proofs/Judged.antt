-- What the tests of an edit of one vertex say of its refusals.
use Rattle.kit_words.proofs.Common.{◌≡◌, Bool, sym, ap, ap₂, ◌∙◌, subst, List, [], ◌∷◌, ◌||◌, ◌&&◌, Option, None, not}
use Rattle.kit_words.proofs.Common.{list_any, le-leb}
use Rattle.std.specs.FinSet as set
use Rattle.grid_geometry.specs.Common.{is_held, Position, Segment, segment, segment_eq}
use Rattle.grid_geometry.proofs.Common.{segment-comm}
use Rattle.ring_machine.specs.Ring as machine
use Rattle.ring_machine.specs.Common.{Refusal, NoSegment, Occupied, TooLarge, Sweeps, Document, positions, size}
use Rattle.ring_machine.specs.Common.{is_vertex, all_segments, first_pair, least_conflict, first_of, conflict_of}
use Rattle.ring_machine.specs.Common.{planar, is_small, ◌unless◌, insert_refusals, insert_sweeps, ins}
use Rattle.segment_index.specs.Candidates.{SegmentSet, has as among}
use Rattle.local_planarity.specs.Common.{IsAfter, IsEnds}
use Rattle.local_planarity.specs.declared.leaving.Leaving.TheVariants.{One}
use Rattle.arc_store.specs.Common.{EditFault, IsInsertable, Refuses}
use Rattle.ring_store.specs.Common.{spokes}
use Rattle.ring_store.proofs.Common.{has-eq}
use Rattle.arc_store.proofs.Indexed.{indexed_ends}
use Rattle.arc_store.proofs.Insertions.{segments_ins}
use Rattle.ring_machine.proofs.Common.{segment_eq-sym}
use Rattle.arc_store.proofs.MovePlan.{refuses_first}

-- ---- an insertion

module _ (d : Document) (held : SegmentSet) (a b q : Position) (i : IsInsertable d held a b q) where
  -- what is left to test: conflicts, and what the border sweeps over
  insert_first :
      first_of (insert_refusals d a b q)
      ≡ first_of (planar (ins d a b q) ∷ (Sweeps unless not (insert_sweeps d a b q)) ∷ [])
  unfolding insert_refusals
  insert_first =
      let rest : List (Option Refusal) = planar (ins d a b q) ∷ (Sweeps unless not (insert_sweeps d a b q)) ∷ [] in
      ap (λ x. first_of ((NoSegment unless x) ∷ (Occupied unless not (is_vertex d q)) ∷ (TooLarge unless is_small (ins d a b q)) ∷ rest)) i.border
      ∙ ap (λ x. first_of ((Occupied unless not x) ∷ (TooLarge unless is_small (ins d a b q)) ∷ rest)) i.free
      ∙ ap (λ x. first_of ((TooLarge unless x) ∷ rest)) (le-leb (size (ins d a b q)) 4000000 i.small)

  -- the segments after the insertion, in the words of the tests
  insert_after : IsAfter held (One (segment a b)) (segment a q ∷ segment b q ∷ []) (all_segments (ins d a b q))
  insert_after t =
      has-eq (all_segments (ins d a b q)) t
      ∙ segments_ins d a b q i.border t
      ∙ ap₂ (λ y z. y || z)
      (ap₂ (λ y z. y && not z) (sym (i.indexed t)) (segment_eq-sym t (segment a b)))
      (ap (λ z. list_any (segment_eq t) (segment a q ∷ z ∷ [])) (segment-comm q b) ∙ sym (has-eq (segment a q ∷ segment b q ∷ []) t))

  -- in the words of what was passed to the tests
  module _ (before : Segment) (after : List Segment) (goes : before ≡ segment a b) (comes : after ≡ spokes q (a ∷ b ∷ [])) where
    pub insert_passed : IsAfter held (One before) after (all_segments (ins d a b q))
    insert_passed t =
        insert_after t
        ∙ ap₂ (λ y z. (set.contains held t && not (segment_eq y t)) || among z t) (sym goes) (sym comes)

    -- the fault of the first pair in conflict
    pub insert_refused : (fault : EditFault)
        → ((ss : List Segment) → IsAfter held (One before) after ss → Refuses fault (conflict_of (least_conflict ss)))
        → Refuses fault (first_of (insert_refusals d a b q))
    unfolding first_pair
    insert_refused fault h =
        subst (Refuses fault) (sym insert_first)
        (refuses_first fault (conflict_of (least_conflict (all_segments (ins d a b q)))) ((Sweeps unless not (insert_sweeps d a b q)) ∷ []) (h (all_segments (ins d a b q)) insert_passed))

    -- where no two are in conflict, what was found to be swept over decides
    pub insert_decided : (found : Bool)
        → ((ss : List Segment) → IsAfter held (One before) after ss → least_conflict ss ≡ None)
        → ((ps : List Position) → IsEnds held ps → found ≡ list_any (λ w. not (machine.has (a ∷ b ∷ []) w) && is_held w a b q) ps)
        → first_of (insert_refusals d a b q) ≡ first_of ((Sweeps unless not found) ∷ [])
    unfolding first_pair insert_sweeps
    insert_decided found h s =
        insert_first
        ∙ ap (λ o. first_of (conflict_of o ∷ (Sweeps unless not (insert_sweeps d a b q)) ∷ [])) (h (all_segments (ins d a b q)) insert_passed)
        ∙ ap (λ y. first_of ((Sweeps unless not y) ∷ [])) (sym (s (positions d) (indexed_ends d held i.indexed)))
