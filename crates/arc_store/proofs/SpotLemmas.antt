-- What stands around a vertex, from the neighbours of its key and the shortest ring that passes it.
use Rattle.kit_words.proofs.Common.{◌≡◌, ◌≢◌, ◌≤◌, ℕ, true, refl, sym, ap, ◌∙◌, List, [], ◌∷◌, length, arith, inl, inr}
use Rattle.kit_words.proofs.Common.{Some, min, sum_by, is_lt, sum_by-cons, nat_lt, kept_any}
use Rattle.std.specs.FinMap as table
use Rattle.grid_geometry.specs.Common.{Position, segment}
use Rattle.ring_machine.specs.Common.{rings, size, is_vertex, canonical, is_junction, is_bridged}
use Rattle.ring_machine.proofs.Common.{In, contains_in, in_contains}
use Rattle.ring_store.specs.declared.neighbours.Neighbours.{Neighbours}
use Rattle.ring_store.specs.declared.neighbours.Neighbours.TheVariants.{One, Two, More}
use Rattle.ring_store.specs.Common.{Passes, AreNeighbours}
use Rattle.arc_tables.specs.Common.{Edge, users_of}
use Rattle.vertex_index.specs.Common.{place}
use Rattle.feature_exchange.specs.Common.{Stored, positions_along, stored_document, IsWhole}
use Rattle.arc_store.specs.Common.{IsBetween, IsShortest}
use Rattle.arc_store.proofs.Around.{is_there, two_no_junction, around_two, bridge_two, bridged_two, neighbours_none}
use Rattle.arc_store.proofs.Around.{neighbours_one, neighbours_more, ring_length, passes_has, has_passes}
use Rattle.ring_store.proofs.Common.{IsKept}
use Rattle.feature_exchange.proofs.Common.{joined_kept, laid_ring, ring_laid}
use Rattle.arc_store.proofs.Insertions.{has_segment, is_segment_by}
use Rattle.arc_store.proofs.Numbers.{users_count}
use Rattle.arc_store.proofs.Reading.{ends_make}
use Rattle.arc_store.proofs.RingUsers.{users_same}

-- a list is no longer than all together
length_among : {A : Type 0} (xs : List A) (xss : List (List A)) → In xs xss
    → length xs ≤ sum_by length xss
length_among xs [] i = absurd i
length_among xs (ys ∷ xss) (inl e) = omega (arith, sum_by-cons length ys xss, ap length e)
length_among xs (ys ∷ xss) (inr i) = omega (arith, sum_by-cons length ys xss, length_among xs xss i)

module _ (s : Stored) (w : IsWhole s) (m : ℕ) (p : Position) (here : table.get s.places m ≡ Some p) where
  -- a vertex that has not two neighbours is a junction
  pub spot_junction : (r : Neighbours) → AreNeighbours s.rings m r → ((a b : ℕ) → r ≢ Two a b)
      → (is_vertex (stored_document s) p ≡ true) × (is_junction (stored_document s) p ≡ true)
  spot_junction Neighbours.None h n = absurd (neighbours_none s w m p here h)
  spot_junction (One a) h n = absurd (neighbours_one s w m p here a h)
  spot_junction (Two a b) h n = absurd (n a b refl)
  spot_junction More h n = (is_there s w m p here, neighbours_more s w m p here h)

  module _ (a b : ℕ) (two : AreNeighbours s.rings m (Two a b)) where
    -- its neighbours have keys
    pub two_kept : IsKept s.places a × IsKept s.places b
    two_kept = ((joined_kept s w m a ((two.1 a).1 (inl refl))).1, (joined_kept s w m b ((two.1 b).1 (inr refl))).1)

    -- some ring passes it
    pub two_pass : ((es : List Edge) → ¬ Passes s.rings m es) → ⊥
    two_pass h =
        let j = (two.1 a).1 (inl refl) in
        h j.edges (record { ring = j.ring; other = a; held = j.held; has = j.has })

    -- it stands between them
    pub two_between :
        let t = segment (place s.places a) (place s.places b) in IsBetween (stored_document s) p t.lo t.hi
    two_between =
        let t = segment (place s.places a) (place s.places b) in
        record {
          vertex = is_there s w m p here;
          inner = two_no_junction s w m p here a b two;
          order = ap is_lt (bridge_two s w m p here a b two);
          each = λ u i. around_two s w m p here a b two u (contains_in _ u i) ∙ sym (ends_make t (bridge_two s w m p here a b two));
        }

    -- they are joined where some ring has their segment
    pub bridge_used : nat_lt 0 (users_of s.rings a b) ≡ is_bridged (stored_document s) p
    bridge_used =
        let t = segment (place s.places a) (place s.places b) in
        ap (nat_lt 0) (sym (users_same s w a b) ∙ sym (users_count s w a b two_kept.0 two_kept.1))
        ∙ kept_any (has_segment t) (rings (stored_document s))
        ∙ sym (is_segment_by (stored_document s) t)
        ∙ sym (bridged_two s w m p here a b two)

  capped : (n l most : ℕ) → n ≡ min l most → l ≤ 4000000 → 4000000 ≤ most → n ≡ l
  capped n l most e f g = omega (arith, e, f, g)

  -- the shortest ring with it has as many positions as that at its key has edges
  pub shortest_read : size (stored_document s) ≤ 4000000 → (n most : ℕ) → 4000000 ≤ most
      → (es : List Edge) × Passes s.rings m es × (n ≡ min (length es) most)
      → ((es : List Edge) → Passes s.rings m es → n ≤ length es) → IsShortest (stored_document s) p n
  shortest_read small n most large some least =
      let es = some.0 in
      let v = some.1 in
      let there = ring_laid s w v.ring es v.held in
      let long = ring_length s w m p here es in
      record {
        ring = canonical (positions_along s.places es);
        there = in_contains (rings (stored_document s)) (canonical (positions_along s.places es)) there;
        through = passes_has s w m p here v.ring es v.held v.other v.has;
        long = capped n (length es) most some.2 (omega (arith, length_among (canonical (positions_along s.places es)) (rings (stored_document s)) there, long, small)) large ∙ sym long;
        least = λ r i h.
            let l = laid_ring s w r (contains_in (rings (stored_document s)) r i) in
            omega (arith, least l.along (has_passes s w m p here r l h), ring_length s w m p here l.along, ap length l.is);
      }
