-- The segments of rings are those of the arcs that they use.
use Rattle.kit_words.proofs.Common.{◌≡◌, ℕ, ◌≤◌, true, refl, sym, ap, ◌∙◌, subst, List, [], inl, inr, arith, Contains}
use Rattle.kit_words.proofs.Common.{is_some, IsSome, Option, get_or, length, get_or_default, ◌==◌, list_any, cases_Bool}
use Rattle.kit_words.proofs.Common.{both_ways}
use Rattle.std.proofs.Common.{None as Absent, Some}
use Rattle.std.specs.Option.{unwrap_or}
use Rattle.std.specs.FinMap as rings
use Rattle.slab.specs.Slab.{get, ContainsKey}
use Rattle.arc_tables.specs.declared.arc.Arc.{Arc}
use Rattle.arc_tables.specs.declared.tables.Tables.{Tables}
use Rattle.ring_store.specs.Common.{Neighbours, None, One, Two, More, noted_all, other_ends, ends_among, Joined}
use Rattle.ring_store.specs.Common.{AreNeighbours, ListsJoined, gathered, including_all}
use Rattle.arc_tables.specs.Common.{Edge, links, times, edges_of, path_of, path_in, users_in, uses_in, uses_arc, store}
use Rattle.arc_tables.specs.Common.{stand_at, Known, Listed, rings_of}
use Rattle.arc_tables.proofs.Common.{present, chain_has, chain_uses, any_contained, contained_any, held_ring, ring_here}
use Rattle.arc_tables.proofs.Held.{none_at}
use Rattle.ring_store.proofs.NeighbourLemmas.{Sees, sees_alike, sees_list, in_flat_map, to_flat_map, ends_times}
use Rattle.ring_store.proofs.NeighbourLemmas.{times_ends}
use Rattle.ring_store.proofs.Gathering.{gathered_behind, only_including, themselves_including, different_including_all}

-- a path with a segment of the vertex has the vertex
pub stands_in : (a b : ℕ) (ps : List ℕ) → 1 ≤ times a b (links ps) → Contains ps a
stands_in a b ps h = elim (cases_Bool (list_any (λ k. k == a) ps)) [ inl e ↦ any_contained a ps e | inr e ↦ absurd (omega (arith, none_at a b ps (λ m. both_ways _ e (contained_any a ps m)))) ]

module _ {A : Type 0} where
  -- each arc that is there has a ring
  abbrev pub EachUsed : Tables A → Type 0
  EachUsed t = (i : ℕ) → ContainsKey t.arcs i → (r : ℕ) × (uses_arc i (uses_in (get t.rings r)) ≡ true)

  pub each_used : (t : Tables A) → Known t.arcs t.rings → EachUsed t
  each_used t k i h =
      let users = users_in (get t.arcs i) in
      let r = get_or users 0 0 in
      (r, k.used r i (0, omega (arith, k.some i h), get_or_default users 0 r 0 (omega (arith, k.some i h))))

  -- the edges that the map has under a number are those of its ring
  pub edges_held : (t : Tables A) (r : ℕ) (es : List Edge) → rings.get (rings_of t) r ≡ Some es → edges_of (store t) r ≡ es
  edges_held t r es h = ap (λ o. unwrap_or o []) (sym (ring_here t r (held_ring t r (ap is_some h))) ∙ h)

  arc_there : (o : Option (Arc A)) (k x : ℕ) → 1 ≤ times k x (links (path_in o)) → IsSome o
  arc_there Absent k x h = absurd (omega arith)
  arc_there (Some v) k x h = refl

  -- some ring has a segment of an arc
  pub arc_joined : (t : Tables A) → EachUsed t → (k x i : ℕ) → 1 ≤ times k x (links (path_of t i)) → Joined (rings_of t) k x
  arc_joined t used k x i h =
      let u = used i (arc_there (get t.arcs i) k x h) in
      record {
        ring = u.0;
        edges = edges_of (store t) u.0;
        held = ring_here t u.0 (present i (get t.rings u.0) u.1);
        has = chain_has k x (path_of t) i (uses_in (get t.rings u.0)) h u.1;
      }

  -- and a ring's segment stands in an arc
  pub joined_arc : (t : Tables A) (k x : ℕ) → Joined (rings_of t) k x → (i : ℕ) × (1 ≤ times k x (links (path_of t i)))
  joined_arc t k x j =
      let f = chain_uses k x (path_of t) (uses_in (get t.rings j.ring)) (subst (λ es. 1 ≤ times k x es) (sym (edges_held t j.ring j.edges j.held)) j.has) in
      (f.0, f.2)

  -- the vertices that are joined to k are the other ends in the arcs that are listed for it
  abbrev ends_at : Tables A → ℕ → List ℕ
  ends_at t k = ends_among (path_of t) (stand_at t.stands.items k) k

  end_joined : (t : Tables A) (k : ℕ) → EachUsed t → (x : ℕ) → Contains (ends_at t k) x → Joined (rings_of t) k x
  end_joined t k used x m =
      let f = in_flat_map (λ i. other_ends k (links (path_of t i))) (stand_at t.stands.items k) x m in
      arc_joined t used k x f.0 (ends_times k x (links (path_of t f.0)) f.2)

  joined_end : (t : Tables A) (k : ℕ) → Listed t.arcs t.stands.items → (x : ℕ) → Joined (rings_of t) k x → Contains (ends_at t k) x
  joined_end t k listed x j =
      let f = joined_arc t k x j in
      to_flat_map (λ i. other_ends k (links (path_of t i))) (stand_at t.stands.items k) f.0 x (listed f.0 k (stands_in k x (path_of t f.0) f.1)) (times_ends k x (links (path_of t f.0)) f.1)

  -- so it is seen there which they are
  pub neighbours_of : (t : Tables A) (k : ℕ) (ends : List ℕ) → ((x : ℕ) → Contains ends x → Joined (rings_of t) k x) → ((x : ℕ) → Joined (rings_of t) k x → Contains ends x) → AreNeighbours (rings_of t) k (noted_all None ends)
  neighbours_of t k ends forth back = are (noted_all None ends) (sees_alike (Contains ends) (Joined (rings_of t) k) forth back (noted_all None ends) (sees_list ends))
    where
      are : (n : Neighbours) → Sees (Joined (rings_of t) k) n → AreNeighbours (rings_of t) k n
      are None h = h
      are (One a) h = h
      are (Two a b) h = h
      are More h = record { a = h.0; b = h.1; c = h.2; apart = h.3; joined = h.4 }

  pub neighbours_seen : (t : Tables A) (k : ℕ) → EachUsed t → Listed t.arcs t.stands.items → AreNeighbours (rings_of t) k (noted_all None (ends_among (path_of t) (stand_at t.stands.items k) k))
  neighbours_seen t k used listed = neighbours_of t k (ends_at t k) (end_joined t k used) (joined_end t k listed)

  -- and listed
  pub lists_joined : (t : Tables A) (k : ℕ) (old new : List ℕ) → EachUsed t → Listed t.arcs t.stands.items → new ≡ gathered (length old) old (ends_among (path_of t) (stand_at t.stands.items k) k) → ListsJoined (rings_of t) k old new
  lists_joined t k old new used listed is =
      record {
        found = including_all [] (ends_at t k);
        appended = is ∙ gathered_behind old (ends_at t k);
        all = λ x. ((λ m. end_joined t k used x (only_including (ends_at t k) x m)), (λ j. themselves_including [] (ends_at t k) x (joined_end t k listed x j)));
        once = different_including_all [] (ends_at t k) tt;
      }

  -- what is not joined in the rings stands beside it in no arc
  pub not_joined : (t : Tables A) → EachUsed t → (k x : ℕ) → ¬ (Joined (rings_of t) k x) → (i : ℕ) → times k x (links (path_of t i)) ≡ 0
  not_joined t used k x h i =
      let none : 1 ≤ times k x (links (path_of t i)) → ⊥ = λ l. h (arc_joined t used k x i l) in
      grind arith
