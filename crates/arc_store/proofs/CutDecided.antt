-- What the tests of a split say of its refusals.
use Rattle.kit_words.proofs.Common.{◌≡◌, ℕ, Bool, true, sym, ap, ap₂, ◌∙◌, subst, List, [], arith, ◌∷◌, length, ◌||◌}
use Rattle.kit_words.proofs.Common.{◌&&◌, Option, None, not, nat_lt, nat_le, list_any}
use Rattle.std.specs.FinSet as set
use Rattle.grid_geometry.specs.Common.{Position, Segment}
use Rattle.ring_machine.specs.Common.{is_distinct, Refusal, NoFeature, NoCollection, NotOnOuterRing, RepeatedPoint}
use Rattle.ring_machine.specs.Common.{Occupied, SegmentExists, WrongSide, TooLarge, Document, Text, size, is_vertex}
use Rattle.ring_machine.specs.Common.{all_segments, least_conflict, Path, cut, is_cut_by, is_wrong_side, first_that}
use Rattle.ring_machine.specs.Common.{first_of, conflict_of, planar, is_small, ◌unless◌, feature_at, is_layer}
use Rattle.ring_machine.specs.Common.{positions_of, is_path_segment, split_refusals}
use Rattle.ring_machine.proofs.Common.{path_segments, first_pair-is}
use Rattle.segment_index.specs.Candidates.{SegmentSet, has as among}
use Rattle.local_planarity.specs.Common.{IsAfter}
use Rattle.local_planarity.specs.declared.leaving.Leaving.TheVariants.{Nothing}
use Rattle.ring_store.proofs.Common.{has-eq, or_nothing}
use Rattle.feature_exchange.specs.Common.{IsIndexed}
use Rattle.arc_store.specs.Common.{EditFault, Refuses, IsCuttable, has_room}
use Rattle.arc_store.proofs.CutBorders.{cut_segments, cut_size}
use Rattle.arc_store.proofs.MovePlan.{refuses_first}

module _ (d : Document) (next n : ℕ) (id : Text) (path : Path) (a : IsCuttable d n path) where
  -- the refusals that are left once the other conditions hold
  abbrev pub sides_and_limits : List (Option Refusal)
  sides_and_limits =
      (WrongSide unless not (list_any (is_wrong_side path) (first_that (is_cut_by path) (feature_at d n).polygons)))
      ∷ (TooLarge unless (nat_lt next 200000 && is_small (cut d n id path next))) ∷ []

  pub split_first : first_of (split_refusals d next n id path)
      ≡ first_of (planar (cut d n id path next) ∷ sides_and_limits)
  unfolding split_refusals
  split_first =
      let rest : List (Option Refusal) = planar (cut d n id path next) ∷ sides_and_limits in
      let cuts = list_any (is_cut_by path) (feature_at d n).polygons in
      let distinct = is_distinct (positions_of path) in
      let occupied = list_any (is_vertex d) path.inner in
      let old = is_path_segment d path in
      ap (λ x. first_of ((NoFeature unless x) ∷ (NoCollection unless not (is_layer d n)) ∷ (NotOnOuterRing unless cuts) ∷ (RepeatedPoint unless distinct) ∷ (Occupied unless not occupied) ∷ (SegmentExists unless not old) ∷ rest)) a.there
      ∙ ap (λ x. first_of ((NoCollection unless not x) ∷ (NotOnOuterRing unless cuts) ∷ (RepeatedPoint unless distinct) ∷ (Occupied unless not occupied) ∷ (SegmentExists unless not old) ∷ rest)) a.inside
      ∙ ap (λ x. first_of ((NotOnOuterRing unless x) ∷ (RepeatedPoint unless distinct) ∷ (Occupied unless not occupied) ∷ (SegmentExists unless not old) ∷ rest)) a.cut
      ∙ ap (λ x. first_of ((RepeatedPoint unless x) ∷ (Occupied unless not occupied) ∷ (SegmentExists unless not old) ∷ rest)) a.different
      ∙ ap (λ x. first_of ((Occupied unless not x) ∷ (SegmentExists unless not old) ∷ rest)) a.free
      ∙ ap (λ x. first_of ((SegmentExists unless not x) ∷ rest)) a.new

  -- where no two segments conflict, the sides and the room decide
  pub split_decided : (p : List (List Position))
      → first_that (is_cut_by path) (feature_at d n).polygons ≡ p ∷ [] → (wrong room : Bool)
      → wrong ≡ is_wrong_side path p → room ≡ has_room next (size d) (length path.inner)
      → least_conflict (all_segments (cut d n id path next)) ≡ None
      → first_of (split_refusals d next n id path)
      ≡ first_of ((WrongSide unless not wrong) ∷ (TooLarge unless room) ∷ [])
  split_decided p f wrong room e h none =
      split_first
      ∙ ap (λ o. first_of (conflict_of o ∷ sides_and_limits)) (first_pair-is (cut d n id path next) ∙ none)
      ∙ ap₂ (λ y z. first_of ((WrongSide unless not y) ∷ (TooLarge unless (nat_lt next 200000 && nat_le z 4000000)) ∷ []))
      (ap (list_any (is_wrong_side path)) f ∙ sym (or_nothing (is_wrong_side path p)) ∙ sym e) (cut_size d next n id path a)
      ∙ ap (λ z. first_of ((WrongSide unless not wrong) ∷ (TooLarge unless z) ∷ [])) (sym h)

  -- the segments after the split, in the words of the tests
  pub split_after : (held : SegmentSet) → IsIndexed d held
      → IsAfter held Nothing (path_segments path) (all_segments (cut d n id path next))
  split_after held indexed t =
      has-eq (all_segments (cut d n id path next)) t ∙ cut_segments d next n id path a t
      ∙ ap₂ (λ y z. y || z) (sym (indexed t) ∙ grind arith) (sym (has-eq (path_segments path) t))

  -- in the words of what was passed to the tests
  module _ (held : SegmentSet) (indexed : IsIndexed d held) (added : List Segment) (comes : added ≡ path_segments path) where
    pub split_passed : IsAfter held Nothing added (all_segments (cut d n id path next))
    split_passed t = split_after held indexed t ∙ ap (λ z. (set.contains held t && true) || among z t) (sym comes)

    -- the fault of the first pair in conflict
    pub split_refused : (fault : EditFault)
        → ((ss : List Segment) → IsAfter held Nothing added ss → Refuses fault (conflict_of (least_conflict ss)))
        → Refuses fault (first_of (split_refusals d next n id path))
    split_refused fault h =
        subst (Refuses fault) (sym split_first)
        (refuses_first fault (planar (cut d n id path next)) sides_and_limits
        (subst (λ o. Refuses fault (conflict_of o)) (sym (first_pair-is (cut d n id path next))) (h (all_segments (cut d n id path next)) split_passed)))
