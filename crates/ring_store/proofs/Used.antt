-- How many rings have the segment of two vertices, and whether some ring has it.
use Rattle.kit_words.proofs.Common.{◌≡◌, ◌≢◌, ◌≤◌, ℕ, Bool, true, false, refl, sym, ap, ap₂, ◌∙◌, cond, List, [], ◌∷◌}
use Rattle.kit_words.proofs.Common.{map, ◌&&◌, inl, inr, Some, arith, T, nat_cmp, eq_by_cmp, is_lt, Ordering, Less}
use Rattle.kit_words.proofs.Common.{Equal, Greater, below_all, is_sorted, nat_tests, sum_by-cons}
use Rattle.std.specs.Prelude.{count_by}
use Rattle.std.specs.FinMap as table
use Rattle.grid_geometry.specs.Common.{segment}
use Rattle.grid_geometry.proofs.Common.{segment-comm}
use Rattle.ring_machine.proofs.Common.{In, contains_in, in_contains, any_in, same_ends}
use Rattle.vertex_index.specs.Common.{Placement, place}
use Rattle.arc_tables.specs.Common.{Edge, is_seg, Rings, has_segment, users_of, begins}
use Rattle.arc_tables.proofs.Common.{ends_of}
use Rattle.ring_store.proofs.CallerLemmas.{unused_apart}
use Rattle.ring_store.proofs.KeyRings.{edge_times, edge_ends}
use Rattle.ring_store.proofs.Places.{IsKept, one_key}
use Rattle.ring_store.specs.Common.{IsSide}
use Rattle.ring_store.specs.Steps.{AreKeyed}

-- ---- an entry of a map

pub first_of_two : (a b : Bool) → T (a && b) → T a
first_of_two true b p = tt
first_of_two false b p = absurd p

pub second_of_two : (a b : Bool) → T (a && b) → T b
second_of_two true b p = p
second_of_two false b p = absurd p

less_is : (o : Ordering) → T (is_lt o) → o ≡ Less
less_is Less p = refl
less_is Equal p = absurd p
less_is Greater p = absurd p

module _ {X : Type 0} where
  other_than_below : (n : ℕ) (es : List (ℕ × X)) → T (below_all nat_cmp n es) → (k : ℕ) (v : X) → In (k, v) es
      → eq_by_cmp nat_cmp k n ≡ false
  other_than_below n [] h k v i = absurd i
  other_than_below n (e ∷ es) h k v (inl s) =
      let less : nat_cmp n e.0 ≡ Less = less_is (nat_cmp n e.0) (first_of_two (is_lt (nat_cmp n e.0)) (below_all nat_cmp n es) h) in
      let same : e.0 ≡ k = ap (λ (x : ℕ × X). x.0) s in
      let lt : nat_cmp n k ≡ Less = ap (nat_cmp n) (sym same) ∙ less in
      grind (arith, nat_tests)
  other_than_below n (e ∷ es) h k v (inr i) =
      other_than_below n es (second_of_two (is_lt (nat_cmp n e.0)) (below_all nat_cmp n es) h) k v i

  found_entry : (es : List (ℕ × X)) → T (is_sorted nat_cmp es) → (k : ℕ) (v : X) → In (k, v) es
      → table.find nat_cmp k es ≡ Some v
  found_entry [] h k v i = absurd i
  found_entry (e ∷ es) h k v (inl s) =
      let same : e.0 ≡ k = ap (λ (x : ℕ × X). x.0) s in
      let here : eq_by_cmp nat_cmp k e.0 ≡ true = grind (arith, nat_tests) in
      ap (λ b. cond b (Some e.1) (table.find nat_cmp k es)) here ∙ ap (λ (x : ℕ × X). Some x.1) s
  found_entry (e ∷ es) h k v (inr i) =
      ap (λ b. cond b (Some e.1) (table.find nat_cmp k es)) (other_than_below e.0 es (first_of_two (below_all nat_cmp e.0 es) (is_sorted nat_cmp es) h) k v i)
      ∙ found_entry es (second_of_two (below_all nat_cmp e.0 es) (is_sorted nat_cmp es) h) k v i

  -- where some pass, there is one that does
  some_counted : (p : X → Bool) (es : List (ℕ × X)) → 1 ≤ count_by p (map (λ (e : ℕ × X). e.1) es)
      → (e : ℕ × X) × In e es × (p e.1 ≡ true)
  some_counted p [] l = absurd (omega (arith, l))
  some_counted p (e ∷ es) l = by (p e.1) refl (some_counted p es)
    where
      by : (t : Bool) → p e.1 ≡ t
          → (1 ≤ count_by p (map (λ (x : ℕ × X). x.1) es) → (f : ℕ × X) × In f es × (p f.1 ≡ true))
          → (f : ℕ × X) × In f (e ∷ es) × (p f.1 ≡ true)
      by true h go = (e, inl refl, h)
      by false h go =
          let k = go (omega (arith, l, sum_by-cons (λ x. cond {A = ℕ} (p x) 1 0) e.1 (map (λ (x : ℕ × X). x.1) es), ap (λ b. cond {A = ℕ} b 1 0) h)) in
          (k.0, inr k.1, k.2)

-- a ring that has the segment of a and b
pub some_user : (m : Rings) (a b : ℕ) → users_of m a b ≢ 0
    → (r : ℕ) × (es : List Edge) × (table.get m r ≡ Some es) × (has_segment a b es ≡ true)
some_user m a b h =
    let k = some_counted (has_segment a b) (table.entries m) (omega (arith, h)) in
    (k.0.0, k.0.1, table.get-entries m k.0.0 ∙ found_entry (table.entries m) (table.entries_sorted m) k.0.0 k.0.1 k.1, k.2)

-- ---- sides

-- the segment of two vertices is a side where a ring has it
pub used_side : (places : Placement) (m : Rings) (a b : ℕ) → users_of m a b ≢ 0
    → IsSide places m (segment (place places a) (place places b))
used_side places m a b h =
    let u = some_user m a b h in
    let e = any_in (is_seg a b) u.1 u.3 in
    record {
      ring = u.0;
      edges = u.1;
      held = u.2;
      edge = e.0;
      among = in_contains u.1 e.0 e.1;
      is = elim (ends_of a b e.0 e.2) [
        | inl i ↦ ap₂ (λ x y. segment (place places x) (place places y)) (sym i.0) (sym i.1)
        | inr i ↦ segment-comm (place places a) (place places b) ∙ ap₂ (λ x y. segment (place places x) (place places y)) (sym i.0) (sym i.1)
      ];
    }

-- and is none where no ring has it
pub unused_side : (places : Placement) (m : Rings) → AreKeyed places m → (a b : ℕ) → IsKept places a
    → IsKept places b → users_of m a b ≡ 0
    → IsSide places m (segment (place places a) (place places b)) → ⊥
unused_side places m w a b in_a in_b none s =
    let i : In s.edge s.edges = contains_in s.edges s.edge s.among in
    let ends = edge_ends s.edges (w.round s.ring s.edges s.held) s.edge i in
    let from = w.placed s.edge.0 (record { ring = s.ring; edges = s.edges; held = s.held; visited = in_contains (begins s.edges) s.edge.0 ends.0 }) in
    let to = w.placed s.edge.1 (record { ring = s.ring; edges = s.edges; held = s.held; visited = in_contains (begins s.edges) s.edge.1 ends.1 }) in
    unused_apart m a b none (record {
      ring = s.ring;
      edges = s.edges;
      held = s.held;
      has = edge_times a b s.edges s.edge i (elim (same_ends (place places a, place places b) (place places s.edge.0, place places s.edge.1) s.is) [
        | inl e ↦ inl (one_key places w.distinct s.edge.0 a from in_a e.0, one_key places w.distinct s.edge.1 b to in_b e.1)
        | inr e ↦ inr (one_key places w.distinct s.edge.0 b from in_b e.0, one_key places w.distinct s.edge.1 a to in_a e.1)
      ]);
    })
