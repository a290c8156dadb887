use Rattle.kit_words.proofs.Common.{◌≡◌, ◌≤◌, take, fold}
use Rattle.ring_machine.specs.Common.{Proper, thin_at}
use Rattle.segment_index.specs.Common.{times_by}
use Rattle.edit_vertex.specs.Common.{IsThinnedFrom, most_over}
use Rattle.edit_vertex.proofs.Passing.{with_count}
use Rattle.edit_vertex.proofs.ThinKept.{IsCount}
use Rattle.edit_vertex.proofs.thinning.thin.Given as goal

-- the pass over the vertices so far, and no more left out than these
abbrev pub invariant-loop-p : goal.invariant-loop-p
invariant-loop-p g l = record {
  so_far : fold (thin_at l.t) (with_count l.fn.map.doc 0) (take l.p-index l.ascending) ≡ with_count l.map.doc l.removed;
  few : l.removed ≤ l.p-index;
  proper : Proper l.map.doc;
  next : l.map.next ≡ l.fn.map.next;
  places : l.map.places ≡ l.fn.map.places;
  cells : l.map.cells ≡ l.fn.map.cells;
  tests : l.map.tests ≤ most_over (times_by l.fn.map.cells) l.t (with_count l.fn.map.doc 0) (take l.p-index l.ascending);
  kept : IsThinnedFrom l.fn.map.doc l.map;
  count : IsCount l.map.last l.removed;
}
