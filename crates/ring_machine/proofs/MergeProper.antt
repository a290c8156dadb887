-- A document in which two features are merged stays proper.
use Rattle.kit_words.proofs.Common.{◌≡◌, ℕ, true, sym, ap, ap₂, ◌∙◌, subst, List, [], ◌∷◌, ◌++◌, ◌⊎◌, inl, inr, None}
use Rattle.kit_words.proofs.Common.{flat_map}
use Rattle.grid_geometry.specs.Common.{Position, Segment, segment_eq, Edge, edges}
use Rattle.ring_machine.specs.Common.{is_ring, segment_of, segments, Document, Feature, features, rings_of, rings}
use Rattle.ring_machine.specs.Common.{all_segments, WellFormed, Proper, is_common, joined, joined_polygons}
use Rattle.ring_machine.specs.Common.{joined_feature, join, instead, first_of, merge_refusals, feature_at, or_else}
use Rattle.ring_machine.specs.Common.{no_feature}
use Rattle.ring_machine.proofs.RingSegments.{segment_eq-true}
use Rattle.ring_machine.proofs.Steps.{first_pair-is}
use Rattle.ring_machine.proofs.First.{In, in-append, in_left}
use Rattle.ring_machine.proofs.Members.{in_mapped, in_flat, any_in}
use Rattle.ring_machine.proofs.Neighbours.{in-map, in-flat_map, all_in}
use Rattle.ring_machine.proofs.Passed.{pass_all}
use Rattle.ring_machine.proofs.JoinedRuns.{Shared, shared, other_common}
use Rattle.ring_machine.proofs.JoinedRing.{joined_is_ring, joined_in}
use Rattle.ring_machine.proofs.Fewer.{fewer_apart}
use Rattle.ring_machine.proofs.MergeAccepted.{Pair, MergeAccepted, merge-accepted}
use Rattle.ring_machine.proofs.MergedFeatures.{merged}
use Rattle.ring_machine.proofs.Found.{feature_found}
use Rattle.ring_machine.proofs.Instead.{in-instead}
use Rattle.ring_machine.proofs.Without.{in-take_out}
use Rattle.ring_machine.proofs.CutJoined.{join_is}
use Rattle.ring_machine.proofs.MergeAreas.{outer_in}

-- a common edge's segment is one of the ring's
common_segment : (ring : List Position) (e : Edge) → is_common ring e ≡ true
    → In (segment_of e) (segments ring)
common_segment ring e h =
    let a = any_in (segment_eq (segment_of e)) (segments ring) h in
    subst (λ t. In t (segments ring)) (sym (segment_eq-true (segment_of e) a.0 a.2)) a.1

module _ (d : Document) (n m : ℕ) (formed : WellFormed d) (a : MergeAccepted d n m) where
  abbrev pair : Pair a.first a.second
  pair = a.pair_is

  ring_in : (f : Feature) (polygon : List (List Position)) (ring : List Position)
      → In f (features d)
      → f.polygons ≡ polygon ∷ [] → In ring polygon → In ring (rings d)
  ring_in f polygon ring i e j = in-flat_map rings_of f ring (features d) i (subst (λ ps. In ring (flat_map (λ p. p) ps)) (sym e) (in_left ring polygon [] j))

  merged_rings : (ring : List Position) → In ring (rings_of (merged a.second a.first))
      → In ring (rings d) ⊎ (joined pair.r pair.s ≡ ring)
  merged_rings ring h =
      let k : In ring ((joined pair.r pair.s ∷ (pair.holes ++ pair.more)) ++ []) = subst (λ ps. In ring (flat_map (λ p. p) ps)) (ap₂ joined_polygons pair.first pair.second) h in
      elim (in-append ring (joined pair.r pair.s ∷ (pair.holes ++ pair.more)) [] k) [
        | inr i ↦ absurd i
        | inl i ↦ elim i [
          | inl e ↦ inr e
          | inr j ↦ elim (in-append ring pair.holes pair.more j) [
            | inl l ↦ inl (ring_in a.first (pair.r ∷ pair.holes) ring a.first_in pair.first (inr l))
            | inr l ↦ inl (ring_in a.second (pair.s ∷ pair.more) ring a.second_in pair.second (inr l))
          ]
        ]
      ]

  -- a ring after the merge was there before, or is the joined one
  pub rings_after : (ring : List Position) → In ring (rings (join d n a.second))
      → In ring (rings d) ⊎ (joined pair.r pair.s ≡ ring)
  rings_after ring h =
      let k = in_flat rings_of ring (features (join d n a.second)) h in
      let l = in-take_out (instead n (joined_feature a.second) d) a.second.number k.0 (subst (λ e. In k.0 (features e)) (join_is d n a.second) k.1) in
      elim (in-instead n (joined_feature a.second) d k.0 l.0) [
        | inl i ↦ inl (in-flat_map rings_of k.0 ring (features d) i.0 k.2)
        | inr o ↦ elim o.3 [
          | inl e ↦
              let found = feature_found d formed o.0 n o.1 o.2 in
              let known = a.first_is in
              let same : o.0 ≡ a.first = cc in
              merged_rings ring (subst (λ f. In ring (rings_of f)) (sym e ∙ ap (merged a.second) same) k.2)
          | inr e ↦ absurd e
        ]
      ]

  module _ (proper : Proper d) where
    first_ring : is_ring pair.r ≡ true
    first_ring = all_in is_ring (rings d) pair.r proper.are_rings (outer_in d a.first pair.r pair.holes a.first_in pair.first)

    second_ring : is_ring pair.s ≡ true
    second_ring = all_in is_ring (rings d) pair.s proper.are_rings (outer_in d a.second pair.s pair.more a.second_in pair.second)

    both_shared : Shared pair.r pair.s
    both_shared = shared pair.r pair.s first_ring second_ring pair.joins.some pair.joins.one

    -- no segment is new
    pub segments_after : (t : Segment) → In t (all_segments (join d n a.second))
        → In t (all_segments d)
    segments_after t h =
        let k = in_flat segments t (rings (join d n a.second)) h in
        elim (rings_after k.0 k.1) [
          | inl i ↦ in-flat_map segments k.0 t (rings d) i k.2
          | inr e ↦
              let x = in_mapped segment_of t (edges (joined pair.r pair.s)) (subst (λ ring. In t (segments ring)) (sym e) k.2) in
              elim (joined_in pair.r pair.s first_ring second_ring both_shared x.0 x.1) [
                | inl j ↦ in-flat_map segments pair.r t (rings d) (outer_in d a.first pair.r pair.holes a.first_in pair.first)
                    (subst (λ u. In u (segments pair.r)) x.2 (in-map segment_of x.0 (edges pair.r) j.0))
                | inr j ↦ in-flat_map segments pair.s t (rings d) (outer_in d a.second pair.s pair.more a.second_in pair.second)
                    (subst (λ u. In u (segments pair.s)) x.2 (common_segment pair.s x.0 (other_common pair.r pair.s x.0 j.0)))
              ]
        ]

    joined_proper : Proper (join d n a.second)
    joined_proper = record {
      are_rings = pass_all is_ring (rings (join d n a.second)) (λ ring i. elim (rings_after ring i) [
        | inl j ↦ all_in is_ring (rings d) ring proper.are_rings j
        | inr e ↦ ap is_ring (sym e) ∙ joined_is_ring pair.r pair.s first_ring second_ring both_shared pair.joins.none_else pair.joins.sides
      ]);
      apart = first_pair-is (join d n a.second) ∙ fewer_apart (all_segments d) (all_segments (join d n a.second)) segments_after (sym (first_pair-is d) ∙ proper.apart);
    }

-- an accepted merge gives a proper document
pub merge_is_proper : (d : Document) (n m : ℕ) → WellFormed d → Proper d
    → first_of (merge_refusals d n m) ≡ None → Proper (join d n (feature_at d m))
merge_is_proper d n m formed proper h =
    let a = merge-accepted d n m h in
    subst (λ o. Proper (join d n (or_else no_feature o))) (sym a.second_is) (joined_proper d n m formed a proper)
