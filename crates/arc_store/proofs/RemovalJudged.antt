-- What the tests of a removal say of its refusals.
use Rattle.kit_words.proofs.Common.{◌≡◌, Bool, sym, ap, ap₂, ◌∙◌, subst, List, [], ◌∷◌, ◌||◌, ◌&&◌, Option, None, not}
use Rattle.kit_words.proofs.Common.{list_any}
use Rattle.grid_geometry.specs.Common.{is_held, Position, Segment, segment_eq, is_end}
use Rattle.ring_machine.specs.Ring as machine
use Rattle.ring_machine.specs.Common.{Refusal, NoVertex, Junction, RingShort, SegmentExists, Sweeps, Document}
use Rattle.ring_machine.specs.Common.{positions, all_segments, first_pair, least_conflict, first_of, conflict_of}
use Rattle.ring_machine.specs.Common.{planar, are_long, is_bridged, ◌unless◌, remove_refusals, remove_sweeps, del}
use Rattle.ring_machine.specs.Common.{is_junction}
use Rattle.segment_index.specs.Common.{SegmentSet}
use Rattle.local_planarity.specs.Common.{IsAfter, IsEnds}
use Rattle.local_planarity.specs.declared.leaving.Leaving.TheVariants.{EndingAt}
use Rattle.arc_store.specs.Common.{EditFault, IsRemovable, Refuses}
use Rattle.ring_store.proofs.Common.{has-eq, or_nothing}
use Rattle.arc_store.proofs.MovePlan.{refuses_first}
use Rattle.arc_store.proofs.Indexed.{indexed_ends}

module _ (d : Document) (held : SegmentSet) (p : Position) (t : Segment) (i : IsRemovable d held p t) where
  -- what is left to test: conflicts, and what the border sweeps over
  remove_first :
      first_of (remove_refusals d p)
      ≡ first_of (planar (del d p) ∷ (Sweeps unless not (remove_sweeps d p)) ∷ [])
  unfolding remove_refusals
  remove_first =
      let rest : List (Option Refusal) = planar (del d p) ∷ (Sweeps unless not (remove_sweeps d p)) ∷ [] in
      ap (λ x. first_of ((NoVertex unless x) ∷ (Junction unless not (is_junction d p)) ∷ (RingShort unless are_long d p) ∷ (SegmentExists unless not (is_bridged d p)) ∷ rest)) i.vertex
      ∙ ap (λ x. first_of ((Junction unless not x) ∷ (RingShort unless are_long d p) ∷ (SegmentExists unless not (is_bridged d p)) ∷ rest)) i.inner
      ∙ ap (λ x. first_of ((RingShort unless x) ∷ (SegmentExists unless not (is_bridged d p)) ∷ rest)) i.long
      ∙ ap (λ x. first_of ((SegmentExists unless not x) ∷ rest)) i.unjoined

  -- the segments after the removal, in the words of the tests
  pub remove_after : IsAfter held (EndingAt p) (t ∷ []) (all_segments (del d p))
  remove_after s =
      has-eq (all_segments (del d p)) s
      ∙ i.without s
      ∙ ap₂ (λ y z. (y && not (is_end p s)) || z) (sym (i.indexed s)) (or_nothing (segment_eq s t) ∙ sym (has-eq (t ∷ []) s))

  -- the fault of the first pair in conflict
  pub remove_refused : (fault : EditFault)
      → ((ss : List Segment) → IsAfter held (EndingAt p) (t ∷ []) ss → Refuses fault (conflict_of (least_conflict ss)))
      → Refuses fault (first_of (remove_refusals d p))
  unfolding first_pair
  remove_refused fault h =
      subst (Refuses fault) (sym remove_first)
      (refuses_first fault (conflict_of (least_conflict (all_segments (del d p)))) ((Sweeps unless not (remove_sweeps d p)) ∷ []) (h (all_segments (del d p)) remove_after))

  -- where no two are in conflict, what was found in the triangle of p and the ends decides
  pub remove_decided : (ends : Segment) → ends ≡ t → (found : Bool)
      → ((ss : List Segment) → IsAfter held (EndingAt p) (t ∷ []) ss → least_conflict ss ≡ None)
      → ((ps : List Position) → IsEnds held ps → found ≡ list_any (λ w. not (machine.has (ends.lo ∷ p ∷ ends.hi ∷ []) w) && is_held w ends.lo p ends.hi) ps)
      → first_of (remove_refusals d p) ≡ first_of ((Sweeps unless not found) ∷ [])
  unfolding first_pair
  remove_decided ends same found h s =
      remove_first
      ∙ ap (λ o. first_of (conflict_of o ∷ (Sweeps unless not (remove_sweeps d p)) ∷ [])) (h (all_segments (del d p)) remove_after)
      ∙ ap (λ y. first_of ((Sweeps unless not y) ∷ [])) (i.sweeps ∙ sym (s (positions d) (indexed_ends d held i.indexed) ∙ ap swept same))
    where
      swept : Segment → Bool
      swept z = list_any (λ w. not (machine.has (z.lo ∷ p ∷ z.hi ∷ []) w) && is_held w z.lo p z.hi) (positions d)
