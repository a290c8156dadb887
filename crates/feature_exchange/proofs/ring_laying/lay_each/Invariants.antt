use Rattle.kit_words.proofs.Common.{◌≡◌, ◌≤◌, ◌+◌, take, length, map, vec_len, vec_capacity}
use Rattle.vertex_index.specs.Common.{place}
use Rattle.feature_exchange.specs.Common.{numbers_of, AreThere, AreAdded, KeepsPlaces}
use Rattle.ring_store.specs.Common.{Stands}
use Rattle.feature_exchange.proofs.ring_laying.lay_each.Given as goal

-- the rings so far are laid
abbrev pub invariant-loop-ring : goal.invariant-loop-ring
invariant-loop-ring g l = record {
  stands : Stands l.vertices l.borders (g.I.SegIndex.held l.index);
  there : AreThere l.borders l.laid.items;
  added : AreAdded l.initial.borders l.borders (numbers_of l.laid.items);
  at : map (λ ring. map (place l.vertices) ring.keys.items) l.laid.items ≡ map (λ ring. ring.items) (take l.ring-index l.rings);
  kept : KeepsPlaces l.initial.vertices l.vertices;
  room : vec_len l.laid + length l.rings ≤ vec_capacity l.laid + l.ring-index;
  cells : g.I.SegIndex.cells l.index ≡ g.I.SegIndex.cells l.initial.index;
}
