-- Two rings with one common run: the one passes it, and the other passes it in reverse.
use Rattle.kit_words.proofs.Common.{◌≡◌, ◌≤◌, Bool, true, false, refl, sym, ap, ◌∙◌, subst, cond, List, [], ◌∷◌}
use Rattle.kit_words.proofs.Common.{◌++◌, reverse, ◌⊎◌, inl, inr, arith, list_any, list_all, false≢true}
use Rattle.kit_words.proofs.Common.{map-append, false_from_ne_true}
use Rattle.grid_geometry.specs.Common.{Position, Segment, Edge, edges}
use Rattle.grid_geometry.proofs.Common.{segment-comm}
use Rattle.ring_machine.specs.Common.{edge_eq, is_distinct, is_ring, segment_of, Chain, is_common, passed_alike, runs}
use Rattle.ring_machine.proofs.Order.{edge_eq-true, edge_eq-refl}
use Rattle.ring_machine.proofs.Edges.{starts}
use Rattle.ring_machine.proofs.Arcs.{flip, flipped}
use Rattle.ring_machine.proofs.Once.{times, times-append}
use Rattle.ring_machine.proofs.Spots.{Rotated}
use Rattle.ring_machine.proofs.First.{In, in-append, in_left, in_right}
use Rattle.ring_machine.proofs.Members.{any_in, in_any}
use Rattle.ring_machine.proofs.Cycles.{Cycle, cycle_of, cycle_reversed, cycle_rotated, in_rotated, rotated-sym}
use Rattle.ring_machine.proofs.Cycles.{chain_parts, chain-flipped, times-flipped, edges_reversed, in_flipped}
use Rattle.ring_machine.proofs.Cycles.{flipped_in, starts-flipped, ends}
use Rattle.ring_machine.proofs.Distinct.{first_once}
use Rattle.ring_machine.proofs.OneRun.{Run, run_of}
use Rattle.ring_machine.proofs.Passed.{pass_none, common_in, in_common, flip_common, common-flip, times_in, alike_along}
use Rattle.ring_machine.proofs.Neighbours.{all_in, none_in}
use Rattle.ring_machine.proofs.Passed.{reverse_along, in_split, way_of}
use Rattle.ring_machine.proofs.SplitRings.{distinct_reversed, distinct_left}

-- the second ring, turned where both pass the run in the same direction
abbrev pub other_of : List Position → List Position → List Position
other_of r s = cond (passed_alike r s) (reverse s) s

-- the edges of r, begun elsewhere, are a run of common ones and its own;
-- those of the other ring are the run in reverse and its own
pub record Shared (r s : List Position) : Type 0 where
  pub first : Edge
  pub more : List Edge
  pub own : List Edge
  pub others : List Edge
  pub here : Rotated (edges r) ((first ∷ more) ++ own)
  pub there : Rotated (edges (other_of r s)) (flipped (first ∷ more) ++ others)
  pub are_common : list_all (is_common s) (first ∷ more) ≡ true
  pub are_own : list_any (is_common s) own ≡ false
  pub are_others : list_any (is_common r) others ≡ false

-- ---- edges of both rings

pub alike_in : (r s : List Position) → passed_alike r s ≡ true
    → (e : Edge) × In e (edges r) × In e (edges s)
alike_in r s h =
    let a = any_in (λ e. list_any (edge_eq e) (edges s)) (edges r) h in
    let b = any_in (edge_eq a.0) (edges s) a.2 in
    (a.0, a.1, subst (λ z. In z (edges s)) (sym (edge_eq-true a.0 b.0 b.2)) b.1)

pub in_alike : (r s : List Position) (e : Edge) → In e (edges r) → In e (edges s)
    → passed_alike r s ≡ true
in_alike r s e h k = in_any (λ x. list_any (edge_eq x) (edges s)) e (edges r) h (in_any (edge_eq e) e (edges s) k (edge_eq-refl e))

pub in_reverse : (s : List Position) (e : Edge) → In e (edges s) → In (flip e) (edges (reverse s))
in_reverse s e h = in_rotated (flipped (edges s)) (edges (reverse s)) (flip e) (edges_reversed s) (in_flipped e (edges s) h)

reverse_in : (s : List Position) (e : Edge) → In e (edges (reverse s)) → In (flip e) (edges s)
reverse_in s e h = flipped_in e (edges s) (in_rotated (edges (reverse s)) (flipped (edges s)) e (rotated-sym (flipped (edges s)) (edges (reverse s)) (edges_reversed s)) h)

-- the turned ring has the same segments
pub other_common : (r s : List Position) (e : Edge) → In e (edges (other_of r s))
    → is_common s e ≡ true
other_common r s e h = by (passed_alike r s) h
  where
    by : (b : Bool) → In e (edges (cond b (reverse s) s)) → is_common s e ≡ true
    by true i = flip_common s e (reverse_in s e i)
    by false i = in_common s e i

pub in_other : (r s : List Position) (e : Edge) → In e (edges s)
    → In e (edges (other_of r s)) ⊎ In (flip e) (edges (other_of r s))
in_other r s e h = by (passed_alike r s)
  where
    by : (b : Bool)
        → In e (edges (cond b (reverse s) s)) ⊎ In (flip e) (edges (cond b (reverse s) s))
    by true = inr (in_reverse s e h)
    by false = inl h

pub cycle_other : (r s : List Position) → is_ring s ≡ true → Cycle (edges (other_of r s))
cycle_other r s h = by (passed_alike r s)
  where
    by : (b : Bool) → Cycle (edges (cond b (reverse s) s))
    by true = cycle_reversed s h
    by false = cycle_of s h

-- no ring passes a segment both ways
both_ways : (os : List Edge) → Cycle os → (e : Edge) → In e os → In (flip e) os → ⊥
both_ways os c e h k =
    let s = in_split e os h in
    let turned : Rotated os ((e ∷ s.1) ++ s.0) = record { us = s.0; vs = e ∷ s.1; from = s.2; to = refl } in
    by (s.1 ++ s.0) (cycle_rotated os (e ∷ (s.1 ++ s.0)) turned c) (in_rotated os (e ∷ (s.1 ++ s.0)) (flip e) turned k)
  where
    loop : (rest : List Edge) → Cycle (e ∷ rest) → e.0 ≡ e.1 → ⊥
    loop [] c' l = omega (arith, c'.long)
    loop (f ∷ rest) c' l = first_once e.0 (starts (f ∷ rest)) c'.starts_once (inl (c'.chain.1.0 ∙ sym l))

    by : (rest : List Edge) → Cycle (e ∷ rest) → In (flip e) (e ∷ rest) → ⊥
    by rest c' (inl i) = loop rest c' (ap (λ (z : Edge). z.0) i)
    by rest c' (inr i) = omega (arith, c'.once (segment_of e), times_in e (e ∷ []) (inl refl), subst (λ t. 1 ≤ times t rest) (segment-comm e.1 e.0) (times_in (flip e) rest i))

-- ---- the other ring passes the run in reverse

module _ (r s : List Position) (ring : is_ring r ≡ true) (second : is_ring s ≡ true) (run : Run (is_common s) (edges r)) where
  here_is : Rotated (edges r) ((run.first ∷ run.more) ++ run.rest)
  here_is = record { us = run.us; vs = run.vs; from = run.are; to = sym run.turned }

  here_cycle : Cycle ((run.first ∷ run.more) ++ run.rest)
  here_cycle = cycle_rotated (edges r) ((run.first ∷ run.more) ++ run.rest) here_is (cycle_of r ring)

  run_chain : (q : Position) × Chain here_cycle.at (run.first ∷ run.more) q
  run_chain = let k = chain_parts here_cycle.at (run.first ∷ run.more) run.rest here_cycle.at here_cycle.chain in (k.0, k.1)

  run_once : (t : Segment) → times t (run.first ∷ run.more) ≤ 1
  run_once t = omega (arith, here_cycle.once t, times-append t (run.first ∷ run.more) run.rest)

  either_way : (x : Edge) → In x (run.first ∷ run.more) → In x (edges s) ⊎ In (flip x) (edges s)
  either_way x i = common_in s x (all_in (is_common s) (run.first ∷ run.more) x run.common i)

  in_r : (x : Edge) → In x (run.first ∷ run.more) → In x (edges r)
  in_r x i = in_rotated ((run.first ∷ run.more) ++ run.rest) (edges r) x (rotated-sym (edges r) ((run.first ∷ run.more) ++ run.rest) here_is) (in_left x (run.first ∷ run.more) run.rest i)

  -- an edge of both rings is of the run
  in_run : (x : Edge) → In x (edges r) → is_common s x ≡ true → In x (run.first ∷ run.more)
  in_run x i c = elim (in-append x (run.first ∷ run.more) run.rest (in_rotated (edges r) ((run.first ∷ run.more) ++ run.rest) x here_is i)) [
    | inl j ↦ j
    | inr j ↦ absurd (false≢true (sym (none_in (is_common s) run.rest x run.own j) ∙ c))
  ]

  opposite : (x : Edge) → In x (run.first ∷ run.more) → In (flip x) (edges (other_of r s))
  opposite x i = by (passed_alike r s) refl
    where
      by : (b : Bool) → passed_alike r s ≡ b → In (flip x) (edges (cond b (reverse s) s))
      by true e =
          let a = alike_in r s e in
          elim (either_way run.first (inl refl)) [
            | inl j ↦ in_reverse s x (alike_along (edges s) (cycle_of s second) run.first run.more run_chain.0 run_chain.1.1 run_once j (λ y k. either_way y (inr k)) x i)
            | inr j ↦ absurd (both_ways (edges s) (cycle_of s second) a.0 a.2 (reverse_along (edges s) (cycle_of s second) run.first run.more run_chain.0 run_chain.1.1 run_once j (λ y k. either_way y (inr k)) a.0 (in_run a.0 a.1 (in_common s a.0 a.2))))
          ]
      by false e = elim (either_way run.first (inl refl)) [
        | inl j ↦ absurd (false≢true (sym e ∙ in_alike r s run.first (in_r run.first (inl refl)) j))
        | inr j ↦ reverse_along (edges s) (cycle_of s second) run.first run.more run_chain.0 run_chain.1.1 run_once j (λ y k. either_way y (inr k)) x i
      ]

  back_once : is_distinct (starts (flipped (run.first ∷ run.more))) ≡ true
  back_once = ap is_distinct (starts-flipped (run.first ∷ run.more))
      ∙ distinct_reversed (ends (run.first ∷ run.more)) (distinct_left (ends (run.first ∷ run.more)) (ends run.rest) (ap is_distinct (sym (map-append (λ (e : Edge). e.1) (run.first ∷ run.more) run.rest)) ∙ here_cycle.ends_once))

  there_is : (g : List Edge) × Rotated (edges (other_of r s)) (flipped (run.first ∷ run.more) ++ g)
  there_is = by (flipped (run.first ∷ run.more)) back_once (chain-flipped here_cycle.at (run.first ∷ run.more) run_chain.0 run_chain.1)
      (in_flipped run.first (run.first ∷ run.more) (inl refl)) (λ y i. opposite (flip y) (flipped_in y (run.first ∷ run.more) i))
    where
      by : (back : List Edge) → is_distinct (starts back) ≡ true
          → Chain run_chain.0 back here_cycle.at
          → In (flip run.first) back → ((y : Edge) → In y back → In y (edges (other_of r s)))
          → (g : List Edge) × Rotated (edges (other_of r s)) (back ++ g)
      by [] d h i all = absurd i
      by (x ∷ xs) d h i all = way_of (edges (other_of r s)) (cycle_other r s second) x xs here_cycle.at h.1 d all

  -- what the other ring has beside the run is no edge of the one
  apart : (g : List Edge) → Rotated (edges (other_of r s)) (flipped (run.first ∷ run.more) ++ g)
      → (x : Edge) → In x g → is_common r x ≡ false
  apart g there x i = false_from_ne_true (is_common r x) (λ c. elim (common_in r x c) [
    | inl j ↦ twice (times_in x (run.first ∷ run.more) (in_run x j shared))
    | inr j ↦ twice (subst (λ t. 1 ≤ times t (run.first ∷ run.more)) (segment-comm x.1 x.0) (times_in (flip x) (run.first ∷ run.more) (in_run (flip x) j (common-flip s x ∙ shared))))
  ])
    where
      shared : is_common s x ≡ true
      shared = other_common r s x (in_rotated (flipped (run.first ∷ run.more) ++ g) (edges (other_of r s)) x (rotated-sym (edges (other_of r s)) (flipped (run.first ∷ run.more) ++ g) there) (in_right x (flipped (run.first ∷ run.more)) g i))

      twice : 1 ≤ times (segment_of x) (run.first ∷ run.more) → ⊥
      twice h =
          let c = cycle_rotated (edges (other_of r s)) (flipped (run.first ∷ run.more) ++ g) there (cycle_other r s second) in
          omega (arith, c.once (segment_of x), times-append (segment_of x) (flipped (run.first ∷ run.more)) g, times-flipped (segment_of x) (run.first ∷ run.more), times_in x g i, h)

  shared_by : Shared r s
  shared_by = let t = there_is in record {
    first = run.first;
    more = run.more;
    own = run.rest;
    others = t.0;
    here = here_is;
    there = t.1;
    are_common = run.common;
    are_own = run.own;
    are_others = pass_none (is_common r) t.0 (apart t.0 t.1);
  }

-- two rings with a common segment, and one run of these
pub shared : (r s : List Position) → is_ring r ≡ true → is_ring s ≡ true
    → list_any (is_common s) (edges r) ≡ true → runs (is_common s) (edges r) ≤ 1 → Shared r s
shared r s h k some one = shared_by r s h k (run_of (is_common s) (edges r) some one)
