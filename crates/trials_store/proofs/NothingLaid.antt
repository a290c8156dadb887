-- Tables in which nothing is laid.
use Rattle.std.proofs.Common.{◌≡◌, ℕ, sym, ap, ◌∙◌, List, Some, None, is_some}
use Rattle.std.specs.FinMap as table
use Rattle.std.specs.FinSet as set
use Rattle.std.specs.Ordering.{nat_cmp}
use Rattle.std.proofs.lemmas.Bool.{false≢true}
use Rattle.grid_geometry.specs.Segment.{segment_cmp}
use Rattle.segment_index.specs.Candidates.{SegmentSet}
use Rattle.segment_index.proofs.Singles.{contains_none}
use Rattle.vertex_index.specs.Placement.{Placement}
use Rattle.arc_tables.specs.Ways.{Edge}
use Rattle.arc_tables.specs.Rings.{Rings}
use Rattle.ring_store.specs.Standing.{Stands}
use Rattle.feature_exchange.proofs.Visited.{none_some}

pub stands_none : (places : Placement) (rings : Rings) (held : SegmentSet) → places ≡ table.empty
    → rings ≡ table.empty → held ≡ set.empty → Stands places rings held
stands_none places rings held e f g = record {
  round = λ r es h. absurd (no_ring r es h);
  placed = λ k v. absurd (no_ring v.ring v.edges v.held);
  passed = λ k h. absurd (false≢true (sym (ap is_some (no_vertex k)) ∙ h));
  distinct = λ j k p h i. absurd (none_some (table.get places j) p (no_vertex j) h);
  indexed = λ t. ((λ h. absurd (false≢true (sym (contains_none held t g) ∙ h))), (λ s. absurd (no_ring s.ring s.edges s.held)));
}
  where
    no_vertex : (k : ℕ) → table.get places k ≡ None
    no_vertex k = ap (λ z. table.get z k) e ∙ table.get-empty nat_cmp k

    no_ring : (r : ℕ) (es : List Edge) → table.get rings r ≡ Some es → ⊥
    no_ring r es h = none_some (table.get rings r) es (ap (λ z. table.get z r) f ∙ table.get-empty nat_cmp r) h

pub count_none : (held : SegmentSet) → held ≡ set.empty → 0 ≡ set.len held
count_none held e = sym (ap set.len e ∙ set.len-empty segment_cmp)
