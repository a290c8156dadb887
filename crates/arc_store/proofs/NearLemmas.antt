-- What an index gives near a box, as segments of the document.
use Rattle.kit_words.proofs.Common.{◌≡◌, ℕ, Bool, true, sym, ◌∙◌, subst, List, Contains}
use Rattle.grid_geometry.specs.Common.{Segment, Box, segment_eq}
use Rattle.ring_machine.specs.Common.{Document}
use Rattle.ring_machine.proofs.Common.{segment_ordered, segment_eq-true, any_in, in_any, contains_in, in_contains}
use Rattle.segment_index.specs.Common.{SegmentSet, Gives}
use Rattle.feature_exchange.specs.Common.{IsIndexed}
use Rattle.arc_store.specs.Common.{ListsNear}
use Rattle.ring_store.proofs.Common.{has-eq}

pub near_listed : (d : Document) (held : SegmentSet) (times : Segment → Box → ℕ) (rect : Box)
    (old new : List Segment) (all : Bool) → IsIndexed d held → all ≡ true
    → Gives held times rect old new all → ListsNear d rect old new
near_listed d held times rect old new all indexed ok g = record {
  found = g.found;
  appended = g.appended;
  among = λ t c.
      sym (indexed t) ∙ g.among t (has-eq g.found t ∙ in_any (segment_eq t) t g.found (contains_in g.found t c) (segment_ordered.eq-refl t));
  covers = λ t i m.
      let h = sym (has-eq g.found t) ∙ g.covers ok t (indexed t ∙ i) m in
      let u = any_in (segment_eq t) g.found h in
      subst (Contains g.found) (sym (segment_eq-true t u.0 u.2)) (in_contains g.found u.0 u.1);
}
