use Rattle.kit_words.proofs.Common.{◌≡◌, take}
use Rattle.feature_exchange.specs.Common.{numbers_of, AreGone, KeepsPlaces}
use Rattle.ring_store.specs.Common.{Stands}
use Rattle.feature_exchange.proofs.taking.take_out_each.Given as goal

-- the rings so far are gone
abbrev pub invariant-loop-ring : goal.invariant-loop-ring
invariant-loop-ring g l = record {
  stands : Stands l.vertices l.borders (g.I.SegIndex.held l.index);
  gone : AreGone l.initial.borders l.borders (numbers_of (take l.ring-index l.rings));
  places : KeepsPlaces l.vertices l.initial.vertices;
  cells : g.I.SegIndex.cells l.index ≡ g.I.SegIndex.cells l.initial.index;
}
