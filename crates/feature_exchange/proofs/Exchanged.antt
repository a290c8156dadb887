-- Tables that stand, before and after a ring goes or comes.
use Rattle.kit_words.proofs.Common.{◌≡◌, ℕ, refl, sym, ap, ◌∙◌, subst, List, [], ◌⊎◌, inl, inr, Some, None, is_some}
use Rattle.kit_words.proofs.Common.{Option, length, take, arith, Contains, IsTrue, same_map, nat_cmp-IsAntisymmetric}
use Rattle.kit_words.proofs.Common.{false≢true, nat_cmp_total, take_all}
use Rattle.std.specs.FinMap as table
use Rattle.std.specs.FinSet as set
use Rattle.grid_geometry.specs.Common.{Position, Segment, segment}
use Rattle.ring_machine.proofs.Common.{In, contains_in, in_contains, in_mapped, there, same_answer, in-map}
use Rattle.vertex_index.specs.Common.{Placement, AreDistinct, place}
use Rattle.segment_index.specs.Common.{SegmentSet}
use Rattle.segment_index.proofs.Common.{same_sets}
use Rattle.arc_tables.specs.Common.{Edge, Rings, begins, edges}
use Rattle.ring_store.specs.Common.{ArePut, IsRound, GoesRound, IsVisited, IsSide, Stands, AllRound, HoldsWith, sides}
use Rattle.feature_exchange.specs.Common.{LeavesVisited}
use Rattle.ring_store.proofs.Common.{ring_here, begins_edges, goes_round, IsKept, kept_place, length-edges}
use Rattle.ring_store.specs.Steps.{AreKeyed}
use Rattle.ring_store.proofs.Edges.{round_keys}
use Rattle.feature_exchange.proofs.Visited.{visited_at, side_moved, left_there, left_visited, visited_or, side_or}
use Rattle.feature_exchange.proofs.Visited.{ring_kept, ring_either}

-- ---- sides

pub side_in : (p : Placement) (es : List Edge) (t : Segment) → Contains (sides p es) t
    → (e : Edge) × Contains es e × (t ≡ segment (place p e.0) (place p e.1))
side_in p es t c =
    let e = in_mapped (λ (x : Edge). segment (place p x.0) (place p x.1)) t es (contains_in (sides p es) t c) in
    (e.0, in_contains es e.0 e.1, sym e.2)

pub in_sides : (p : Placement) (es : List Edge) (t : Segment) (e : Edge) → Contains es e
    → t ≡ segment (place p e.0) (place p e.1) → Contains (sides p es) t
in_sides p es t e c is =
    subst (Contains (sides p es)) (sym is)
    (in_contains (sides p es) (segment (place p e.0) (place p e.1)) (in-map (λ (x : Edge). segment (place p x.0) (place p x.1)) e es (contains_in es e c)))

none_in : {X : Type 0} (x : X) → Contains [] x → ⊥
none_in x c = absurd (omega (arith, c.1))

-- ---- tables that stand, in parts

pub holds_of : (p : Placement) (m : Rings) (h : SegmentSet) → Stands p m h → HoldsWith p m h []
holds_of p m h s t = (
  λ i. inl ((s.indexed t).0 i),
  λ o. elim o [ inl a ↦ (s.indexed t).1 a | inr c ↦ absurd (none_in t c) ],
)

-- the same rings at the same places: so the same segments
pub same_held : (p : Placement) (m : Rings) (h i : SegmentSet) → HoldsWith p m h [] → HoldsWith p m i [] → h ≡ i
same_held p m h i a b = same_sets h i (λ t. same_answer (set.contains h t) (set.contains i t) (λ k. (b t).1 ((a t).0 k)) (λ k. (a t).1 ((b t).0 k)))

-- the vertices that rings visit are where they were
pub holds_moved : (p q : Placement) (m : Rings) (h : SegmentSet) → AllRound m
    → ((k : ℕ) → IsVisited m k → table.get q k ≡ table.get p k) → HoldsWith p m h [] → HoldsWith q m h []
holds_moved p q m h round alike a t = (
  λ i. elim ((a t).0 i) [ inl s ↦ inl (side_moved p q m round alike t s) | inr c ↦ absurd (none_in t c) ],
  λ o. elim o [
    | inl s ↦ (a t).1 (inl (side_moved q p m round (λ k v. sym (alike k v)) t s))
    | inr c ↦ absurd (none_in t c)
  ],
)

pub kept_there : (p q : Placement) → ((k : ℕ) (x : Position) → table.get q k ≡ Some x → table.get p k ≡ Some x)
    → (k : ℕ) → IsTrue (table.contains_key q k) → IsTrue (table.contains_key p k)
kept_there p q h k c = let o = there (table.get q k) c in ap is_some (h k o.0 o.1)

-- ---- a ring that is taken out

module _ (p : Placement) (m : Rings) (h : SegmentSet) (s : Stands p m h) (n : ℕ) (ks : List ℕ)
    (here : table.get m n ≡ Some (edges ks)) where
  pub ring_there : IsTrue (table.contains_key m n)
  ring_there = ap is_some here

  key_placed : (k : ℕ) → Contains ks k → IsKept p k
  key_placed k c = s.placed k (visited_at m n (edges ks) here k (subst (In k) (sym (begins_edges ks)) (contains_in ks k c)))

  pub ring_round : IsRound p ks
  ring_round = round_keys p ks (s.round n (edges ks) here) key_placed

  module _ (m' : Rings) (gone : m' ≡ table.remove m n) where
    pub keyed_without : AreKeyed p m'
    keyed_without = subst (AreKeyed p) (sym gone) (record {
      round = λ r es e. s.round r es (left_there m n r es e);
      placed = λ k v. s.placed k (left_visited m n k v);
      distinct = s.distinct;
    })

    -- before its segments go
    pub holds_without : HoldsWith p m' h (take (length ks) (edges ks))
    holds_without =
        subst (HoldsWith p m' h) (sym (take_all (length ks) (edges ks) (omega (arith, length-edges ks (omega (arith, ring_round.long))))))
        (subst (λ z. HoldsWith p z h (edges ks)) (sym gone) by)
      where
        back : (t : Segment) → IsSide p (table.remove m n) t → IsSide p m t
        back t a = record { ring = a.ring; edges = a.edges; held = left_there m n a.ring a.edges a.held; edge = a.edge; among = a.among; is = a.is }

        by : HoldsWith p (table.remove m n) h (edges ks)
        by t = (
          λ i. elim (side_or p m n (edges ks) here t ((s.indexed t).0 i)) [
            | inl a ↦ inl a
            | inr e ↦ inr (in_sides p (edges ks) t e.0 e.1 e.2)
          ],
          λ o. elim o [
            | inl a ↦ (s.indexed t).1 (back t a)
            | inr c ↦ let e = side_in p (edges ks) t c in
                (s.indexed t).1 (record { ring = n; edges = edges ks; held = here; edge = e.0; among = e.1; is = e.2 })
          ],
        )

    -- and once they and its vertices are gone
    pub stands_without : (h' : SegmentSet) (p' : Placement) → HoldsWith p m' h' [] → LeavesVisited m' ks p p'
        → Stands p' m' h'
    stands_without h' p' held left = record {
      round = keyed_without.round;
      placed = λ k v. ap is_some (left.stays k v) ∙ keyed_without.placed k v;
      passed = λ k c. passed k c (subst (λ z. IsVisited z k ⊎ Contains ks k) (sym gone) (still k c));
      distinct = λ j k x a b. s.distinct j k x (left.kept j x a) (left.kept k x b);
      indexed = λ t.
          let moved = holds_moved p p' m' h' keyed_without.round left.stays held t in (
            λ i. elim (moved.0 i) [ inl a ↦ a | inr c ↦ absurd (none_in t c) ],
            λ a. moved.1 (inl a),
          );
    }
      where
        still : (k : ℕ) → IsTrue (table.contains_key p' k) → IsVisited (table.remove m n) k ⊎ Contains ks k
        still k c = subst (λ z. IsVisited (table.remove m n) k ⊎ Contains z k) (begins_edges ks)
            (visited_or m n k (edges ks) here (s.passed k (kept_there p p' left.kept k c)))

        passed : (k : ℕ) → IsTrue (table.contains_key p' k) → IsVisited m' k ⊎ Contains ks k → IsVisited m' k
        passed k c (inl v) = v
        passed k c (inr i) = left.gone k i c

-- ---- keys that came

module _ (p : Placement) (m : Rings) (h : SegmentSet) (s : Stands p m h) (ks : List ℕ) (p' : Placement)
    (put : ArePut p p' ks) (distinct : AreDistinct p') where
  visited_stay : (k : ℕ) → IsVisited m k → table.get p' k ≡ table.get p k
  visited_stay k v =
      let e = kept_place p k (s.placed k v) in
      put.kept k (place p k) e ∙ sym e

  pub keyed_with : AreKeyed p' m
  keyed_with = record {
    round = s.round;
    placed = λ k v. ap is_some (visited_stay k v) ∙ s.placed k v;
    distinct = distinct;
  }

  pub holds_with : HoldsWith p' m h []
  holds_with = holds_moved p p' m h s.round visited_stay (holds_of p m h s)

  -- and went again
  pub places_back : (p'' : Placement) → LeavesVisited m ks p' p'' → p'' ≡ p
  places_back p'' left = same_map nat_cmp_total nat_cmp-IsAntisymmetric p'' p (λ k. by k (table.get p k) refl (table.get p'' k) refl)
    where
      by : (k : ℕ) (o : Option Position) → table.get p k ≡ o → (o' : Option Position) → table.get p'' k ≡ o'
          → table.get p'' k ≡ table.get p k
      by k (Some x) e o' f =
          let v = s.passed k (ap is_some e) in
          left.stays k v ∙ visited_stay k v
      by k None e None f = f ∙ sym e
      by k None e (Some x) f =
          let new : IsTrue (table.contains_key p' k) = ap is_some (left.kept k x f) in
          absurd (false≢true (sym (ap is_some e) ∙ elim (put.passed k new) [
            | inl old ↦ old
            | inr c ↦ s.placed k (left.gone k c (ap is_some f))
          ]))

  -- a ring along them came
  module _ (r : IsRound p' ks) (n : ℕ) (free : table.get m n ≡ None) (m' : Rings)
      (added : m' ≡ table.insert m n (edges ks)) (h' : SegmentSet) where
    pub stands_with : HoldsWith p' m' h' [] → Stands p' m' h'
    stands_with held = record {
      round = round;
      placed = λ k v. placed k (subst (λ z. IsVisited z k) added v);
      passed = λ k c. subst (λ z. IsVisited z k) (sym added) (passed k (put.passed k c));
      distinct = distinct;
      indexed = λ t. (
        λ i. elim ((held t).0 i) [ inl a ↦ a | inr c ↦ absurd (none_in t c) ],
        λ a. (held t).1 (inl a),
      );
    }
      where
        round : (q : ℕ) (es : List Edge) → table.get m' q ≡ Some es → GoesRound es
        round q es e = elim (ring_either m n (edges ks) q es (ap (λ z. table.get z q) (sym added) ∙ e)) [
          | inl old ↦ s.round q es old
          | inr is ↦ subst GoesRound (sym is) (goes_round p' ks r)
        ]

        placed : (k : ℕ) → IsVisited (table.insert m n (edges ks)) k → IsKept p' k
        placed k v = elim (ring_either m n (edges ks) v.ring v.edges v.held) [
          | inl old ↦ keyed_with.placed k (record { ring = v.ring; edges = v.edges; held = old; visited = v.visited })
          | inr is ↦ r.placed k (subst (λ z. Contains z k) (ap begins is ∙ begins_edges ks) v.visited)
        ]

        passed : (k : ℕ) → IsKept p k ⊎ Contains ks k → IsVisited (table.insert m n (edges ks)) k
        passed k (inl old) =
            let v = s.passed k old in
            record { ring = v.ring; edges = v.edges; held = ring_kept m n (edges ks) free v.ring v.edges v.held; visited = v.visited }
        passed k (inr c) =
            visited_at (table.insert m n (edges ks)) n (edges ks) (ring_here m n (edges ks)) k (subst (In k) (sym (begins_edges ks)) (contains_in ks k c))

-- the segments that were put in for a ring are its own once it is there
pub holds_added : (p : Placement) (m : Rings) (n : ℕ) (ks : List ℕ) → table.get m n ≡ None → (m' : Rings)
    → m' ≡ table.insert m n (edges ks) → (h : SegmentSet) → HoldsWith p m h (edges ks) → HoldsWith p m' h []
holds_added p m n ks free m' added h held = subst (λ z. HoldsWith p z h []) (sym added) (λ t. (
  λ i. inl (elim ((held t).0 i) [
    | inl a ↦ record { ring = a.ring; edges = a.edges; held = ring_kept m n (edges ks) free a.ring a.edges a.held; edge = a.edge; among = a.among; is = a.is }
    | inr c ↦ let e = side_in p (edges ks) t c in
        record { ring = n; edges = edges ks; held = ring_here m n (edges ks); edge = e.0; among = e.1; is = e.2 }
  ]),
  λ o. elim o [
    | inl a ↦ (held t).1 (elim (ring_either m n (edges ks) a.ring a.edges a.held) [
      | inl old ↦ inl (record { ring = a.ring; edges = a.edges; held = old; edge = a.edge; among = a.among; is = a.is })
      | inr is ↦ inr (in_sides p (edges ks) t a.edge (subst (λ z. Contains z a.edge) is a.among) a.is)
    ])
    | inr c ↦ absurd (none_in t c)
  ],
))

-- a ring that could not be laid: its vertices are gone again
pub stands_back : (p : Placement) (m : Rings) (h : SegmentSet) → Stands p m h → (ks : List ℕ) (p' : Placement)
    → ArePut p p' ks → AreDistinct p' → (m' : Rings) → m' ≡ m → (h' : SegmentSet) → HoldsWith p' m' h' []
    → (p'' : Placement) → LeavesVisited m' ks p' p'' → Stands p'' m' h' × (p'' ≡ p)
stands_back p m h s ks p' put distinct m' same h' held p'' left =
    let places = places_back p m h s ks p' put distinct p'' (subst (λ z. LeavesVisited z ks p' p'') same left) in
    let segments = same_held p' m h h' (holds_with p m h s ks p' put distinct) (subst (λ z. HoldsWith p' z h' []) same held) in (
      subst (λ z. Stands z m' h') (sym places) (subst (λ z. Stands p z h') (sym same) (subst (Stands p m) segments s)),
      places,
    )

-- the same rings stand at the same places
pub same_places : (p q r : Placement) (m : Rings) (h i : SegmentSet) → Stands p m h → Stands r m i
    → ((k : ℕ) (x : Position) → table.get p k ≡ Some x → table.get q k ≡ Some x)
    → ((k : ℕ) (x : Position) → table.get r k ≡ Some x → table.get q k ≡ Some x) → r ≡ p
same_places p q r m h i s t kept left =
    same_map nat_cmp_total nat_cmp-IsAntisymmetric r p (λ k. by k (table.get r k) refl (table.get p k) refl)
  where
    by : (k : ℕ) (o : Option Position) → table.get r k ≡ o → (u : Option Position) → table.get p k ≡ u
        → table.get r k ≡ table.get p k
    by k None e None f = e ∙ sym f
    by k None e (Some x) f = absurd (false≢true (sym (ap is_some e) ∙ t.placed k (s.passed k (ap is_some f))))
    by k (Some x) e None f = absurd (false≢true (sym (ap is_some f) ∙ s.placed k (t.passed k (ap is_some e))))
    by k (Some x) e (Some y) f = e ∙ (sym (left k x e) ∙ kept k y f) ∙ sym f

pub same_segments : (p r : Placement) (m : Rings) (h i : SegmentSet) → r ≡ p → Stands p m h → Stands r m i → i ≡ h
same_segments p r m h i e s t =
    same_held p m i h (holds_of p m i (subst (λ z. Stands z m i) e t)) (holds_of p m h s)
