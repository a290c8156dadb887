-- Which two a vertex stood between that was left out.
use Rattle.kit_words.proofs.Common.{◌≡◌, ◌≢◌, ℕ, refl, sym, ap, ◌∙◌, subst, true, List, Option, false≢true, is_lt}
use Rattle.grid_geometry.specs.Common.{Position, position_cmp, Segment, segment, segment_eq, IsSegment}
use Rattle.ring_machine.specs.Common.{around}
use Rattle.ring_machine.proofs.Common.{contains_in, position_lt-irrefl, segment_ordered}
use Rattle.vertex_index.specs.Common.{Placement, place}
use Rattle.segment_index.specs.Common.{SegmentSet}
use Rattle.segment_index.specs.Frames.{Frame as GridFrame}
use Rattle.arc_tables.specs.Common.{Rings}
use Rattle.map_frame.specs.Common.{Framed}
use Rattle.edit_records.specs.Common.{Record}
use Rattle.feature_exchange.specs.Common.{stored, stored_document}
use Rattle.arc_store.specs.Common.{state_of, IsLeftOut, State}
use Rattle.arc_store.proofs.Around.{around_two, bridge_two}
use Rattle.arc_store.proofs.Reading.{ends_make}
use Rattle.arc_store.proofs.RemovePlan.{IsFound, is_after}

ends_apart : (t : Segment) → IsSegment t → t.lo ≢ t.hi
ends_apart t h e =
    false≢true (sym (position_lt-irrefl t.hi) ∙ ap (λ z. is_lt (position_cmp z t.hi)) (sym e) ∙ ap is_lt h)

-- the segment that comes is all that stood around p
pub found_left : {frame : Framed} {rings : Rings} {places : Placement} {held : SegmentSet} {positions l : ℕ} {cells : Option GridFrame}
    {o : Option Record} {now : State} {p : Position} {m j k : ℕ} {before : List Segment} {after : Segment}
    → IsFound frame rings places held positions p m j k before after → state_of frame rings places l cells o ≡ now
    → IsLeftOut now.doc p (record { at = p; a = after.lo; b = after.hi })
found_left {frame} {rings} {places} {p = p} {m = m} {j = j} {k = k} {after = after} f is =
    subst (λ (s : State). IsLeftOut s.doc p (record { at = p; a = after.lo; b = after.hi })) is (record {
      at = refl;
      apart = ends_apart after made;
      between = λ t h. same t (around_two (stored frame rings places) f.kept.holds.whole m p f.read.here j k f.read.two t (contains_in (around (stored_document (stored frame rings places)) p) t h));
    })
  where
    made : IsSegment after
    made = subst IsSegment (is_after f) (bridge_two (stored frame rings places) f.kept.holds.whole m p f.read.here j k f.read.two)

    same : (t : Segment) → t ≡ segment (place places j) (place places k)
        → segment_eq t (segment after.lo after.hi) ≡ true
    same t e = ap (segment_eq t) (ends_make after made ∙ sym (e ∙ is_after f)) ∙ segment_ordered.eq-refl t
