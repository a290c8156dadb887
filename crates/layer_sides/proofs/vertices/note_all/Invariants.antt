use Rattle.kit_words.proofs.Common.{◌≡◌, map, All}
use Rattle.layer_sides.specs.Seen.{segments_seen, vertices_seen}
use Rattle.layer_sides.specs.Under.{BegunAt}
use Rattle.layer_sides.proofs.vertices.note_all.Given as goal

-- each vertex has those of the borders so far that begin there
abbrev pub invariant-loop-place : goal.invariant-loop-place
invariant-loop-place g l =
    (map (λ v. v.0) (vertices_seen l.vertices.items) ≡ map (λ v. v.0) (vertices_seen l.fn.vertices.items))
    × All (BegunAt (segments_seen l.borders) l.place) (vertices_seen l.vertices.items)
