-- The segments of a ring in an index, edge by edge.
use Rattle.kit_words.proofs.Common.{◌≡◌, ℕ, true, sym, ap, ◌∙◌, subst, ◌||◌, arith, List, [], ◌∷◌, ◌++◌, map, length}
use Rattle.kit_words.proofs.Common.{take, get_or, ◌<◌, ◌≤◌, ◌+◌, Option, append_assoc, take_all, list_any-append}
use Rattle.kit_words.proofs.Common.{map-map, mapped_more}
use Rattle.std.specs.FinSet as set
use Rattle.std.proofs.Common.{append-nil}
use Rattle.grid_geometry.specs.Common.{Segment, segment}
use Rattle.ring_machine.specs.Common.{segments, segment_of}
use Rattle.vertex_index.specs.Common.{Placement, place}
use Rattle.segment_index.specs.Common.{SegmentSet, has, segment_is}
use Rattle.arc_tables.specs.Common.{Edge, edges}
use Rattle.local_planarity.specs.Common.{IsFilled}
use Rattle.local_planarity.proofs.Common.{filled_same}
use Rattle.ring_store.specs.Common.{IsRound, sides}
use Rattle.ring_store.proofs.Common.{length-edges, laid_edges, laid}

-- the segments of its edges are those of its positions
pub sides_round : (places : Placement) (ks : List ℕ) → IsRound places ks
    → sides places (edges ks) ≡ segments (map (place places) ks)
sides_round places ks r =
    sym (map-map segment_of (laid (place places)) (edges ks)) ∙ ap (map segment_of) (sym (laid_edges places ks r))

-- a segment that was held is held still
pub still_held : (held held' : SegmentSet) (first first' : Option (Segment × Segment)) (ss more : List Segment)
    → IsFilled held first ss → IsFilled held' first' (ss ++ more) → (t : Segment) → set.contains held t ≡ true
    → set.contains held' t ≡ true
still_held held held' first first' ss more f f' t h =
    sym (f'.are_held t) ∙ list_any-append (segment_is t) ss more ∙ ap (λ b. b || has more t) (f.are_held t ∙ h)

module _ (places : Placement) (ks : List ℕ) (r : IsRound places ks) (at : ℕ) (held : SegmentSet)
    (first : Option (Segment × Segment)) (ss : List Segment) where
  -- before the first edge
  pub sides_none : IsFilled held first ss → IsFilled held first (ss ++ sides places (take 0 (edges ks)))
  sides_none f = subst (IsFilled held first) (sym (append-nil ss)) f

  -- one edge more
  pub sides_more : at < length ks → (e : Edge) → e ≡ get_or (edges ks) at e
      → IsFilled held first ((ss ++ sides places (take at (edges ks))) ++ segment (place places e.0) (place places e.1) ∷ [])
      → IsFilled held first (ss ++ sides places (take (at + 1) (edges ks)))
  sides_more l e here f =
      let within : at < length (edges ks) = omega (arith, l, length-edges ks (omega (arith, l))) in
      subst (IsFilled held first)
      (append_assoc ss (sides places (take at (edges ks))) (segment (place places e.0) (place places e.1) ∷ [])
      ∙ ap (λ z. ss ++ z) (sym (mapped_more (λ (x : Edge). segment (place places x.0) (place places x.1)) (edges ks) at e within here))) f

  -- one more, whose segment is held
  pub sides_there : at < length ks → (e : Edge) → e ≡ get_or (edges ks) at e
      → set.contains held (segment (place places e.0) (place places e.1)) ≡ true
      → IsFilled held first (ss ++ sides places (take at (edges ks)))
      → IsFilled held first (ss ++ sides places (take (at + 1) (edges ks)))
  sides_there l e here there f =
      sides_more l e here
      (filled_same held first (segment (place places e.0) (place places e.1)) (ss ++ sides places (take at (edges ks))) there f)

  -- all edges
  pub sides_all : length ks ≤ at → IsFilled held first (ss ++ sides places (take at (edges ks)))
      → IsFilled held first (ss ++ segments (map (place places) ks))
  sides_all l f =
      subst (λ z. IsFilled held first (ss ++ z))
      (ap (sides places) (take_all at (edges ks) (omega (arith, l, r.long, length-edges ks (omega (arith, r.long))))) ∙ sides_round places ks r) f
