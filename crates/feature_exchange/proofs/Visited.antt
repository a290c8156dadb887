-- Vertices that rings visit, and rings that come and go.
use Rattle.kit_words.proofs.Common.{◌≡◌, ◌≢◌, ℕ, true, false, refl, sym, ap, ap₂, ◌∙◌, subst, cond, List, ◌⊎◌, inl, inr}
use Rattle.kit_words.proofs.Common.{Some, None, is_some, Option, arith, Contains, unwrap_or, nat_cmp, eq_by_cmp}
use Rattle.kit_words.proofs.Common.{false≢true, nat_tests, nat_cmp_total, ℕ_discrete}
use Rattle.std.specs.FinMap as table
use Rattle.grid_geometry.specs.Common.{Segment, segment}
use Rattle.ring_machine.proofs.Common.{In, contains_in, in_contains, in_mapped, any_in}
use Rattle.vertex_index.specs.Common.{Placement, place}
use Rattle.arc_tables.specs.Common.{Edge, is_seg, Rings, begins, users_of}
use Rattle.arc_tables.proofs.Common.{ends_of}
use Rattle.ring_store.specs.Common.{Joined, AreNeighbours, IsVisited, IsSide, AllRound}
use Rattle.ring_store.specs.declared.neighbours.Neighbours.{Neighbours}
use Rattle.ring_store.specs.declared.neighbours.Neighbours.TheVariants as neighbours
use Rattle.ring_store.proofs.Common.{ring_other, ring_here, times_edge, edge_times, edge_ends, place_alike}
use Rattle.ring_store.proofs.Used.{some_user}

-- ---- visited vertices are those that are joined to some other

pub visited_at : (m : Rings) (r : ℕ) (es : List Edge) → table.get m r ≡ Some es → (k : ℕ)
    → In k (begins es) → IsVisited m k
visited_at m r es e k i = record { ring = r; edges = es; held = e; visited = in_contains (begins es) k i }

joined_visited : (m : Rings) → AllRound m → (k x : ℕ) → Joined m k x → IsVisited m k
joined_visited m round k x j =
    let e = times_edge k x j.edges j.has in
    let ends = edge_ends j.edges (round j.ring j.edges j.held) e.0 e.1 in
    visited_at m j.ring j.edges j.held k (elim e.2 [
      | inl i ↦ subst (λ z. In z (begins j.edges)) i.0 ends.0
      | inr i ↦ subst (λ z. In z (begins j.edges)) i.1 ends.1
    ])

visited_joined : (m : Rings) (k : ℕ) → IsVisited m k → (x : ℕ) × Joined m k x
visited_joined m k v =
    let e = in_mapped (λ (x : Edge). x.0) k v.edges (contains_in (begins v.edges) k v.visited) in
    (e.0.1, record { ring = v.ring; edges = v.edges; held = v.held; has = edge_times k e.0.1 v.edges e.0 e.1 (inl (e.2, refl)) })

-- a vertex with no neighbours is visited by no ring
pub none_lonely : (m : Rings) (k : ℕ) → AreNeighbours m k neighbours.None → IsVisited m k → ⊥
none_lonely m k h v = let j = visited_joined m k v in h j.0 j.1

-- and one with some is visited
pub some_visited : (m : Rings) → AllRound m → (k : ℕ) (n : Neighbours) → n ≢ neighbours.None
    → AreNeighbours m k n → IsVisited m k
some_visited m round k neighbours.None f h = absurd (f refl)
some_visited m round k (neighbours.One a) f h = joined_visited m round k a ((h a).1 refl)
some_visited m round k (neighbours.Two a b) f h = joined_visited m round k a ((h.1 a).1 (inl refl))
some_visited m round k neighbours.More f h = joined_visited m round k h.a h.joined.0

-- and so is an end of a segment that some ring has
pub used_visited : (m : Rings) → AllRound m → (a b : ℕ) → users_of m a b ≢ 0 → IsVisited m a
used_visited m round a b h =
    let u = some_user m a b h in
    let e = any_in (is_seg a b) u.1 u.3 in
    let ends = edge_ends u.1 (round u.0 u.1 u.2) e.0 e.1 in
    visited_at m u.0 u.1 u.2 a (elim (ends_of a b e.0 e.2) [
      | inl i ↦ subst (λ z. In z (begins u.1)) i.0 ends.0
      | inr i ↦ subst (λ z. In z (begins u.1)) i.1 ends.1
    ])

-- ---- sides where the vertices that are visited stay

pub side_moved : (p q : Placement) (m : Rings) → AllRound m
    → ((k : ℕ) → IsVisited m k → table.get q k ≡ table.get p k) → (t : Segment)
    → IsSide p m t → IsSide q m t
side_moved p q m round alike t s =
    let ends = edge_ends s.edges (round s.ring s.edges s.held) s.edge (contains_in s.edges s.edge s.among) in
    record {
      ring = s.ring;
      edges = s.edges;
      held = s.held;
      edge = s.edge;
      among = s.among;
      is =
          s.is
          ∙ sym (ap₂ segment
          (place_alike p q s.edge.0 s.edge.0 (alike s.edge.0 (visited_at m s.ring s.edges s.held s.edge.0 ends.0)))
          (place_alike p q s.edge.1 s.edge.1 (alike s.edge.1 (visited_at m s.ring s.edges s.held s.edge.1 ends.1))));
    }

-- ---- a ring that goes

pub ring_gone : (m : Rings) (n : ℕ) → table.get (table.remove m n) n ≡ None
ring_gone m n =
    let e : eq_by_cmp nat_cmp n n ≡ true = grind (arith, nat_tests) in
    table.get-remove nat_cmp_total m n n ∙ ap (λ b. cond b None (table.get m n)) e

pub ring_stays : (m : Rings) (n r : ℕ) → r ≢ n → table.get (table.remove m n) r ≡ table.get m r
ring_stays m n r f =
    let e : eq_by_cmp nat_cmp r n ≡ false = grind (arith, nat_tests) in
    table.get-remove nat_cmp_total m n r ∙ ap (λ b. cond b None (table.get m r)) e

pub none_some : {X : Type 0} (o : Option X) (x : X) → o ≡ None → o ≡ Some x → ⊥
none_some o x e f = false≢true (sym (ap is_some e) ∙ ap is_some f)

pub left_there : (m : Rings) (n r : ℕ) (es : List Edge) → table.get (table.remove m n) r ≡ Some es
    → table.get m r ≡ Some es
left_there m n r es e = by (ℕ_discrete r n)
  where
    by : Dec (r ≡ n) → table.get m r ≡ Some es
    by (yes s) = absurd (none_some (table.get (table.remove m n) n) es (ring_gone m n) (ap (table.get (table.remove m n)) (sym s) ∙ e))
    by (no f) = sym (ring_stays m n r f) ∙ e

pub left_visited : (m : Rings) (n k : ℕ) → IsVisited (table.remove m n) k → IsVisited m k
left_visited m n k v = record { ring = v.ring; edges = v.edges; held = left_there m n v.ring v.edges v.held; visited = v.visited }

-- the same edges under one number
pub same_edges : (m : Rings) (r : ℕ) (es fs : List Edge) → table.get m r ≡ Some es
    → table.get m r ≡ Some fs → es ≡ fs
same_edges m r es fs e f = ap (λ o. unwrap_or o es) (sym e ∙ f)

-- what was visited still is, or the ring that goes visited it
pub visited_or : (m : Rings) (n k : ℕ) (es : List Edge) → table.get m n ≡ Some es → IsVisited m k
    → IsVisited (table.remove m n) k ⊎ Contains (begins es) k
visited_or m n k es there v = by (ℕ_discrete v.ring n)
  where
    by : Dec (v.ring ≡ n) → IsVisited (table.remove m n) k ⊎ Contains (begins es) k
    by (yes s) = inr (subst (λ z. Contains (begins z) k) (same_edges m n v.edges es (ap (table.get m) (sym s) ∙ v.held) there) v.visited)
    by (no f) = inl (record { ring = v.ring; edges = v.edges; held = ring_stays m n v.ring f ∙ v.held; visited = v.visited })

pub side_or : (p : Placement) (m : Rings) (n : ℕ) (es : List Edge) → table.get m n ≡ Some es → (t : Segment)
    → IsSide p m t → IsSide p (table.remove m n) t ⊎ ((e : Edge) × Contains es e × (t ≡ segment (place p e.0) (place p e.1)))
side_or p m n es there t s = by (ℕ_discrete s.ring n)
  where
    by : Dec (s.ring ≡ n) → IsSide p (table.remove m n) t ⊎ ((e : Edge) × Contains es e × (t ≡ segment (place p e.0) (place p e.1)))
    by (yes i) = inr (s.edge, subst (λ z. Contains z s.edge) (same_edges m n s.edges es (ap (table.get m) (sym i) ∙ s.held) there) s.among, s.is)
    by (no f) = inl (record { ring = s.ring; edges = s.edges; held = ring_stays m n s.ring f ∙ s.held; edge = s.edge; among = s.among; is = s.is })

-- ---- a ring that comes

-- what was there is there still
pub ring_kept : (m : Rings) (n : ℕ) (es : List Edge) → table.get m n ≡ None → (r : ℕ) (fs : List Edge)
    → table.get m r ≡ Some fs → table.get (table.insert m n es) r ≡ Some fs
ring_kept m n es free r fs e =
    ring_other m n es r (λ s. none_some (table.get m n) fs free (ap (table.get m) (sym s) ∙ e)) ∙ e

-- what is there was there, or came
pub ring_either : (m : Rings) (n : ℕ) (es : List Edge) (r : ℕ) (fs : List Edge)
    → table.get (table.insert m n es) r ≡ Some fs → (table.get m r ≡ Some fs) ⊎ (fs ≡ es)
ring_either m n es r fs e = by (ℕ_discrete r n)
  where
    by : Dec (r ≡ n) → (table.get m r ≡ Some fs) ⊎ (fs ≡ es)
    by (yes s) = inr (same_edges (table.insert m n es) n fs es (ap (table.get (table.insert m n es)) (sym s) ∙ e) (ring_here m n es))
    by (no f) = inl (sym (ring_other m n es r f) ∙ e)
