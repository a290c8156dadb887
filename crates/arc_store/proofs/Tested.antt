-- How many tests a planned edit takes at most, in the words of its documents.
use Rattle.kit_words.proofs.Common.{◌≡◌, ◌≤◌, ◌+◌, ℕ, true, false, sym, ap, ap₂, ◌∙◌, subst, List, [], ◌∷◌, ◌&&◌}
use Rattle.kit_words.proofs.Common.{Option, Some, arith, not, or_right}
use Rattle.std.specs.FinMap as table
use Rattle.std.specs.FinSet as set
use Rattle.grid_geometry.specs.Common.{Position, Segment, Box, segment}
use Rattle.ring_machine.specs.Common.{Document, size, is_segment, is_vertex, all_segments, distinct_segments, put, ins}
use Rattle.ring_machine.specs.Common.{del}
use Rattle.vertex_index.specs.Common.{Placement}
use Rattle.segment_index.specs.Common.{SegmentSet, AreSingle, has, segment_is, times_by}
use Rattle.segment_index.specs.Frames.{Frame as GridFrame}
use Rattle.segment_index.proofs.Common.{same_segment}
use Rattle.arc_tables.specs.Common.{Rings}
use Rattle.local_planarity.specs.declared.leaving.Leaving.{Leaving}
use Rattle.local_planarity.specs.declared.leaving.Leaving.TheVariants.{EndingAt, One}
use Rattle.local_planarity.specs.Common.{IsAfter, IsHeld, stays_held, most_given, most_tests, added, most_for, most_for_move}
use Rattle.local_planarity.proofs.Added.{tests_among}
use Rattle.local_planarity.proofs.Nearby.{has-filter}
use Rattle.map_frame.specs.Common.{Framed}
use Rattle.feature_exchange.specs.Common.{IsIndexed, stored, stored_document}
use Rattle.edit_records.specs.Common.{Record}
use Rattle.arc_store.specs.Common.{IsKept, state_of, State}
use Rattle.ring_store.specs.Common.{AreAround, AreNew, spokes}
use Rattle.arc_store.proofs.Indexed.{indexed_has}
use Rattle.arc_store.proofs.InsertPlan.{insertable, insert_new, insert_single, one_single}
use Rattle.arc_store.proofs.Judged.{insert_passed}
use Rattle.arc_store.proofs.MovePlan.{plan_after, plan_new, plan_single}
use Rattle.arc_store.proofs.RemovalJudged.{remove_after}
use Rattle.arc_store.proofs.RemovePlan.{IsPlanned}
use Rattle.ring_store.proofs.Common.{has_all, or_nothing}

-- the segments of a document, each once, are its segments
has_distinct : (d : Document) (t : Segment) → has (distinct_segments d) t ≡ has (all_segments d) t
has_distinct d t = has_all [] (all_segments d) t

module _ (d edited : Document) (held : SegmentSet) (indexed : IsIndexed d held) (leaving : Leaving) (planned : List Segment) (after : IsAfter held leaving planned (all_segments edited)) where
  -- they are there after the edit
  after_distinct : IsAfter held leaving planned (distinct_segments edited)
  after_distinct t = has_distinct edited t ∙ after t

  -- what is planned to come, and is not held, is what the edit adds
  planned_added : AreNew held planned → (t : Segment) → has planned t ≡ true
      → has (added d edited) t ≡ true
  planned_added new t h =
      has-filter (λ s. not (is_segment d s)) (distinct_segments edited) t
      ∙ ap₂ (λ a b. a && not b) (after_distinct t ∙ or_right (stays_held held leaving t) (has planned t) h) (sym (indexed t) ∙ new t h)

  pub edit_few : (times : Segment → Box → ℕ) → AreNew held planned → AreSingle planned → (m n : ℕ)
      → ((ss : List Segment) → IsAfter held leaving planned ss → n ≤ m + most_tests times ss planned)
      → n ≤ m + most_for times d edited
  unfolding most_for
  edit_few times new single m n few =
      omega (arith, few (distinct_segments edited) after_distinct, tests_among times (distinct_segments edited) planned (added d edited) single (planned_added new))

-- the index holds the document's segments, each once
way_few : (d : Document) (held : SegmentSet) → IsIndexed d held → (times : Segment → Box → ℕ)
    → (way : Segment) (m n : ℕ)
    → ((ss : List Segment) → IsHeld held ss → n ≤ m + most_given times ss way)
    → n ≤ m + most_given times (distinct_segments d) way
way_few d held indexed times way m n few =
    few (distinct_segments d) (λ t. has_distinct d t ∙ indexed_has d held indexed t)

-- a move that was tested, and then its way
pub move_few : (d : Document) (held : SegmentSet) → IsIndexed d held → (times : Segment → Box → ℕ)
    → (p q : Position) (l m n : ℕ) → m ≤ l + most_for times d (put d p q)
    → ((ss : List Segment) → IsHeld held ss → n ≤ m + most_given times ss (segment p q))
    → n ≤ l + most_for_move times d p q
unfolding most_for_move
move_few d held indexed times p q l m n tested few =
    omega (arith, tested, way_few d held indexed times (segment p q) m n few)

-- a move that was tested, and no more
pub tested_few : (times : Segment → Box → ℕ) (d : Document) (p q : Position) (l m : ℕ)
    → m ≤ l + most_for times d (put d p q) → m ≤ l + most_for_move times d p q
unfolding most_for_move
tested_few times d p q l m tested = omega (arith, tested)

-- ---- the tests of a map's edits, as the code counts them

new_one : (held : SegmentSet) (x : Segment) → set.contains held x ≡ false → AreNew held (x ∷ [])
new_one held x new t h = ap (set.contains held) (same_segment t x (or_nothing (segment_is t x) ∙ h)) ∙ new

module _ {frame : Framed} {rings : Rings} {places : Placement} {held : SegmentSet} {positions : ℕ} (kept : IsKept frame rings places held positions) {l : ℕ} {cells : Option GridFrame} {o : Option Record} {now : State} (is : state_of frame rings places l cells o ≡ now) where
  abbrev doc : Document
  doc = stored_document (stored frame rings places)

  -- a move from p to q, where these stand around p
  module _ (k : ℕ) (p q : Position) (at : table.get places k ≡ Some p) (free : is_vertex now.doc q ≡ false) (around : List Position) (r : AreAround places rings k around) (after : List Segment) (comes : after ≡ spokes q around) (m : ℕ) (few : (ss : List Segment) → IsAfter held (EndingAt p) after ss → m ≤ l + most_tests (times_by cells) ss after) where
    planned_few : m ≤ l + most_for (times_by cells) doc (put doc p q)
    planned_few =
        let was : is_vertex doc q ≡ false = ap (λ (z : State). is_vertex z.doc q) is ∙ free in
        let s = stored frame rings places in
        edit_few doc (put doc p q) held kept.holds.indexed (EndingAt p) (spokes q around)
        (plan_after s held kept.holds k p q at was around r) (times_by cells)
        (plan_new s held kept.holds k p q at was around r) (plan_single s held kept.holds k p q at was around r) l m
        (subst (λ z. (ss : List Segment) → IsAfter held (EndingAt p) z ss → m ≤ l + most_tests (times_by cells) ss z) comes few)

    -- after the test of the segments
    pub conflicts_few : m ≤ now.tests + most_for_move (times_by now.cells) now.doc p q
    conflicts_few =
        subst (λ (z : State). m ≤ z.tests + most_for_move (times_by z.cells) z.doc p q) is (tested_few (times_by cells) doc p q l m planned_few)

    -- after the test of the way
    pub sweeps_few : (n : ℕ)
        → ((ss : List Segment) → IsHeld held ss → n ≤ m + most_given (times_by cells) ss (segment p q))
        → n ≤ now.tests + most_for_move (times_by now.cells) now.doc p q
    sweeps_few n way =
        subst (λ (z : State). n ≤ z.tests + most_for_move (times_by z.cells) z.doc p q) is
        (move_few doc held kept.holds.indexed (times_by cells) p q l m n planned_few way)

  -- an insertion of q between a and b
  pub inserted_few : (a b q : Position) → is_segment now.doc (segment a b) ≡ true
      → is_vertex now.doc q ≡ false → size (ins now.doc a b q) ≤ 4000000
      → (before : Segment) (after : List Segment) → before ≡ segment a b → after ≡ spokes q (a ∷ b ∷ [])
      → (m : ℕ) → ((ss : List Segment) → IsAfter held (One before) after ss → m ≤ l + most_tests (times_by cells) ss after)
      → m ≤ now.tests + most_for (times_by now.cells) now.doc (ins now.doc a b q)
  inserted_few a b q border free small before after goes comes m few =
      subst (λ (z : State). m ≤ z.tests + most_for (times_by z.cells) z.doc (ins z.doc a b q)) is
      (edit_few doc (ins doc a b q) held kept.holds.indexed (One before) after
      (insert_passed doc held a b q (insertable kept is a b q border free small) before after goes comes) (times_by cells)
      (insert_new kept is a b q border free comes) (insert_single kept is a b q border free comes) l m few)

  -- a removal of p, for which a segment comes
  pub removed_few : (p : Position) (after : Segment) (before : List Segment)
      → IsPlanned doc held p after before → (m : ℕ)
      → ((ss : List Segment) → IsAfter held (EndingAt p) (after ∷ []) ss → m ≤ l + most_tests (times_by cells) ss (after ∷ []))
      → m ≤ now.tests + most_for (times_by now.cells) now.doc (del now.doc p)
  removed_few p after before plan m few =
      subst (λ (z : State). m ≤ z.tests + most_for (times_by z.cells) z.doc (del z.doc p)) is
      (edit_few doc (del doc p) held kept.holds.indexed (EndingAt p) (after ∷ [])
      (remove_after doc held p after plan.removable) (times_by cells)
      (new_one held after plan.new) (one_single after) l m few)
