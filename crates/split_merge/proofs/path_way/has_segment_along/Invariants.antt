use Rattle.kit_words.proofs.Common.{◌≡◌, ◌∷◌, drop, true, list_any}
use Rattle.grid_geometry.specs.Common.{links}
use Rattle.ring_machine.specs.Common.{is_distinct, segment_of, is_segment}
use Rattle.split_merge.proofs.path_way.has_segment_along.Given as goal

-- none so far: what is left of the path decides
abbrev pub invariant-loop-to : goal.invariant-loop-to
invariant-loop-to g l = record {
  left : list_any (λ e. is_segment l.map.doc (segment_of e)) (links (l.from ∷ drop l.to-index l.rest))
      ≡ list_any (λ e. is_segment l.map.doc (segment_of e)) (links l.positions);
  distinct : is_distinct (l.from ∷ drop l.to-index l.rest) ≡ true;
}
