-- The segment of one edge of a ring put into an index, or taken out.
use Rattle.kit_words.proofs.Common.{◌≡◌, ◌≢◌, ◌<◌, ◌+◌, ℕ, true, false, sym, ap, ◌∙◌, subst, List, [], ◌∷◌, ◌++◌, take}
use Rattle.kit_words.proofs.Common.{get_or, length, arith, Contains, take_more}
use Rattle.std.specs.FinSet as set
use Rattle.grid_geometry.specs.Common.{Segment, segment}
use Rattle.vertex_index.specs.Common.{Placement, place}
use Rattle.segment_index.specs.Common.{SegmentSet}
use Rattle.arc_tables.specs.Common.{Edge, Rings, edges, users_of}
use Rattle.ring_store.specs.Common.{IsRound, IsSide, HoldsWith, sides}
use Rattle.ring_store.proofs.Places.{IsKept}
use Rattle.ring_store.specs.Steps.{AreKeyed}
use Rattle.ring_store.proofs.Edges.{length-edges, side_once, edge_joins}
use Rattle.ring_store.proofs.Held.{holds_same, holds_back, holds_not, holds_more, holds_less, holds_last}
use Rattle.ring_store.proofs.Used.{used_side, unused_side}

module _ (p : Placement) (m : Rings) (w : AreKeyed p m) (ks : List ℕ) (r : IsRound p ks) (at : ℕ)
    (l : at < length ks) (e : Edge) (here : e ≡ get_or (edges ks) at e) where
  within : at < length (edges ks)
  within = omega (arith, l, length-edges ks (omega (arith, l)))

  one_more : take (at + 1) (edges ks) ≡ take at (edges ks) ++ e ∷ []
  one_more = take_more (edges ks) at e within ∙ ap (λ z. take at (edges ks) ++ z ∷ []) (sym here)

  pub joins : IsKept p e.0 × IsKept p e.1 × (e.0 ≢ e.1)
  joins = edge_joins p ks r at e within here

  once : Contains (sides p (take at (edges ks))) (segment (place p e.0) (place p e.1)) → ⊥
  once = side_once p w.distinct ks r at e within here

  module _ (n : ℕ) (uses : n ≡ users_of m e.0 e.1) (held : SegmentSet) where
    alone : n ≡ 0 → IsSide p m (segment (place p e.0) (place p e.1)) → ⊥
    alone none = unused_side p m w e.0 e.1 joins.0 joins.1 (sym uses ∙ none)

    taken : n ≢ 0 → IsSide p m (segment (place p e.0) (place p e.1))
    taken some = used_side p m e.0 e.1 (λ none. some (uses ∙ none))

    pub side_new : n ≡ 0 → HoldsWith p m held (take at (edges ks)) → (s : Segment)
        → s ≡ segment (place p e.0) (place p e.1) → set.contains held s ≡ false
    side_new none h s is = ap (set.contains held) is ∙ holds_not p m held (take at (edges ks)) e (alone none) once h

    pub side_added : n ≡ 0 → HoldsWith p m held (take at (edges ks)) → (s : Segment)
        → s ≡ segment (place p e.0) (place p e.1) → (held' : SegmentSet) → held' ≡ set.insert held s
        → HoldsWith p m held' (take (at + 1) (edges ks))
    side_added none h s is held' put =
        subst (HoldsWith p m held') (sym one_more)
        (holds_more p m held (take at (edges ks)) e (alone none) once held' (put ∙ ap (set.insert held) is) h)

    pub side_there : n ≢ 0 → HoldsWith p m held (take at (edges ks))
        → HoldsWith p m held (take (at + 1) (edges ks))
    side_there some h =
        subst (HoldsWith p m held) (sym one_more) (holds_same p m held (take at (edges ks)) e (taken some) h)

    pub side_held : HoldsWith p m held (take (at + 1) (edges ks)) → (s : Segment)
        → s ≡ segment (place p e.0) (place p e.1) → set.contains held s ≡ true
    side_held h s is =
        ap (set.contains held) is ∙ holds_last p m held (take at (edges ks)) e (subst (HoldsWith p m held) one_more h)

    pub side_dropped : n ≡ 0 → HoldsWith p m held (take (at + 1) (edges ks)) → (s : Segment)
        → s ≡ segment (place p e.0) (place p e.1) → (held' : SegmentSet) → held' ≡ set.remove held s
        → HoldsWith p m held' (take at (edges ks))
    side_dropped none h s is held' gone =
        holds_less p m held (take at (edges ks)) e (alone none) once held' (gone ∙ ap (set.remove held) is)
        (subst (HoldsWith p m held) one_more h)

    pub side_left : n ≢ 0 → HoldsWith p m held (take (at + 1) (edges ks))
        → HoldsWith p m held (take at (edges ks))
    side_left some h =
        holds_back p m held (take at (edges ks)) e (taken some) (subst (HoldsWith p m held) one_more h)
