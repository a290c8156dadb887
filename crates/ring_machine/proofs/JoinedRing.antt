-- The ring that joins two rings is a ring, with the segments that only one of them has.
use Rattle.kit_words.proofs.Common.{◌≡◌, ◌≤◌, Bool, true, false, refl, sym, ap, ap₂, ◌∙◌, subst, cond, List, [], ◌∷◌}
use Rattle.kit_words.proofs.Common.{◌++◌, reverse, length, ◌&&◌, ◌⊎◌, inl, inr, None, arith, not, is_gt, list_any}
use Rattle.kit_words.proofs.Common.{filter, reduce, false≢true, map-append, length-append, length-map, reverse-append}
use Rattle.kit_words.proofs.Common.{and_parts, or_cases, or_parts}
use Rattle.grid_geometry.specs.Common.{Position, position_eq, position_cmp, position_lt, is_end, Edge, edges}
use Rattle.ring_machine.specs.Common.{has, is_distinct, is_ring, segment_of, Chain, is_common, passed_alike}
use Rattle.ring_machine.specs.Common.{same_segments, same_side, common_else, joined, positive}
use Rattle.ring_machine.proofs.Order.{position_eq-true}
use Rattle.ring_machine.proofs.Edges.{starts}
use Rattle.ring_machine.proofs.Arcs.{flip, flipped}
use Rattle.ring_machine.proofs.StaysRing.{canonical_is_ring}
use Rattle.ring_machine.proofs.StaysProper.{edges_start}
use Rattle.ring_machine.proofs.First.{In, in-append, in_right, filter-in}
use Rattle.ring_machine.proofs.Members.{in_mapped, any_in}
use Rattle.ring_machine.proofs.Neighbours.{in-map, in-has, none_in}
use Rattle.ring_machine.proofs.Distinct.{distinct_right, distinct_apart, distinct_both}
use Rattle.ring_machine.proofs.Cycles.{in_rotated, rotated-sym, in_flipped}
use Rattle.ring_machine.proofs.Passed.{flip_common}
use Rattle.ring_machine.proofs.JoinedRuns.{Shared, other_of}
use Rattle.ring_machine.proofs.JoinedRests.{between, here_cycle, there_cycle}
use Rattle.ring_machine.proofs.JoinedRests.{joined_rests, joined_edges, some_own, some_others}

-- ---- positions of both rings

-- p is an end of a common segment
abbrev on_run : List Position → List Position → Position → Bool
on_run r s p = list_any (λ e. is_common s e && is_end p (segment_of e)) (edges r)

end_is : (p : Position) (e : Edge) → is_end p (segment_of e) ≡ true → (p ≡ e.0) ⊎ (p ≡ e.1)
end_is p e h = by (is_gt (position_cmp e.0 e.1)) h
  where
    by : (b : Bool)
        → is_end p (cond b (record { lo = e.1; hi = e.0 }) (record { lo = e.0; hi = e.1 })) ≡ true
        → (p ≡ e.0) ⊎ (p ≡ e.1)
    by true k = elim (or_cases (position_eq p e.1) (position_eq p e.0) k) [ inl a ↦ inr (position_eq-true p e.1 a) | inr a ↦ inl (position_eq-true p e.0 a) ]
    by false k = elim (or_cases (position_eq p e.0) (position_eq p e.1) k) [ inl a ↦ inl (position_eq-true p e.0 a) | inr a ↦ inr (position_eq-true p e.1 a) ]

nothing : (f : Position → Position → Position) (ps : List Position) → reduce f ps ≡ None → ps ≡ []
nothing f [] h = refl
nothing f (p ∷ ps) h = absurd cc

-- a position of both rings is an end of a common segment
is_on_run : (r s : List Position) → common_else r s ≡ None → (p : Position) → In p r → In p s
    → on_run r s p ≡ true
is_on_run r s h p i j = by (on_run r s p) refl
  where
    none : filter (λ q. has s q && not (on_run r s q)) r ≡ []
    none = nothing (λ q t. cond (position_lt t q) t q) (filter (λ q. has s q && not (on_run r s q)) r) h

    by : (b : Bool) → on_run r s p ≡ b → on_run r s p ≡ true
    by true e = e
    by false e = absurd (subst (In p) none (filter-in (λ q. has s q && not (on_run r s q)) p r i (ap₂ (λ y z. y && not z) (in-has p s j) e)))

-- ---- positions by edges

pub start_in : (ring : List Position) (e : Edge) → In e (edges ring) → In e.0 ring
start_in [] e i = absurd i
start_in (a ∷ rest) e i = subst (In e.0) (edges_start a rest) (in-map (λ (x : Edge). x.0) e (edges (a ∷ rest)) i)

of_reverse : (ps : List Position) (p : Position) → In p (reverse ps) → In p ps
of_reverse [] p i = i
of_reverse (q ∷ ps) p i = elim (in-append p (reverse ps) (q ∷ []) (subst (In p) (reverse-append (q ∷ []) ps) i)) [
  | inl j ↦ inr (of_reverse ps p j)
  | inr j ↦ elim j [ inl e ↦ inl e | inr l ↦ absurd l ]
]

module _ (r s : List Position) (ring : is_ring r ≡ true) (second : is_ring s ≡ true) (k : Shared r s) where
  abbrev run : List Edge
  run = k.first ∷ k.more

  own_in : (x : Edge) → In x k.own → In x (edges r)
  own_in x i = in_rotated (run ++ k.own) (edges r) x (rotated-sym (edges r) (run ++ k.own) k.here) (in_right x run k.own i)

  others_in : (x : Edge) → In x k.others → In x (edges (other_of r s))
  others_in x i = in_rotated (flipped run ++ k.others) (edges (other_of r s)) x (rotated-sym (edges (other_of r s)) (flipped run ++ k.others) k.there) (in_right x (flipped run) k.others i)

  in_run : (x : Edge) → In x (edges r) → is_common s x ≡ true → In x run
  in_run x i c = elim (in-append x run k.own (in_rotated (edges r) (run ++ k.own) x k.here i)) [
    | inl j ↦ j
    | inr j ↦ absurd (false≢true (sym (none_in (is_common s) k.own x k.are_own j) ∙ c))
  ]

  -- ---- no position twice

  own_once : is_distinct (starts run ++ starts k.own) ≡ true
  own_once = ap is_distinct (sym (map-append (λ (e : Edge). e.0) run k.own)) ∙ (here_cycle r s ring second k).starts_once

  others_once : is_distinct (starts (flipped run) ++ starts k.others) ≡ true
  others_once = ap is_distinct (sym (map-append (λ (e : Edge). e.0) (flipped run) k.others)) ∙ (there_cycle r s ring second k).starts_once

  of_other : (p : Position) → In p (other_of r s) → In p s
  of_other p i = by (passed_alike r s) i
    where
      by : (b : Bool) → In p (cond b (reverse s) s) → In p s
      by true j = of_reverse s p j
      by false j = j

  rests_apart : common_else r s ≡ None → (p : Position) → In p (starts k.own)
      → In p (starts k.others) → ⊥
  rests_apart h p i j =
      let x = in_mapped (λ (e : Edge). e.0) p k.own i in
      let y = in_mapped (λ (e : Edge). e.0) p k.others j in
      let here : In p r = subst (λ z. In z r) x.2 (start_in r x.0 (own_in x.0 x.1)) in
      let there : In p s = of_other p (subst (λ z. In z (other_of r s)) y.2 (start_in (other_of r s) y.0 (others_in y.0 y.1))) in
      let a = any_in (λ e. is_common s e && is_end p (segment_of e)) (edges r) (is_on_run r s h p here there) in
      let b = and_parts (is_common s a.0) (is_end p (segment_of a.0)) a.2 in
      let e = in_run a.0 a.1 b.0 in
      elim (end_is p a.0 b.1) [
        | inl q ↦ distinct_apart (starts run) (starts k.own) own_once p (subst (λ z. In z (starts run)) (sym q) (in-map (λ (z : Edge). z.0) a.0 run e)) i
        | inr q ↦ distinct_apart (starts (flipped run)) (starts k.others) others_once p (subst (λ z. In z (starts (flipped run))) (sym q) (in-map (λ (z : Edge). z.0) (flip a.0) (flipped run) (in_flipped a.0 run e))) j
      ]

  rests_once : common_else r s ≡ None → is_distinct (starts (k.own ++ k.others)) ≡ true
  rests_once h =
      ap is_distinct (map-append (λ (e : Edge). e.0) k.own k.others)
      ∙ distinct_both (starts k.own) (starts k.others) (distinct_right (starts run) (starts k.own) own_once) (distinct_right (starts (flipped run)) (starts k.others) others_once) (rests_apart h)

  -- ---- three positions

  no_way_back : (x : Edge) → In x k.own → In (flip x) k.others → ⊥
  no_way_back x i j = false≢true (sym (none_in (is_common r) k.others (flip x) k.are_others j) ∙ flip_common r (flip x) (own_in x i))

  at_least_three : (b e : Position) (own others : List Edge) → Chain e own b → Chain b others e
      → (own ≡ [] → ⊥) → (others ≡ [] → ⊥) → ((x : Edge) → In x own → In (flip x) others → ⊥)
      → 3 ≤ length (own ++ others)
  at_least_three b e [] others h l m n o = absurd (m refl)
  at_least_three b e (x ∷ own) [] h l m n o = absurd (n refl)
  at_least_three b e (x ∷ []) (y ∷ []) h l m n o = absurd (o x (inl refl) (inl (λ i. ((l.0 ∙ sym h.1) i, (l.1 ∙ sym h.0) i))))
  at_least_three b e (x ∷ []) (y ∷ z ∷ others) h l m n o = omega arith
  at_least_three b e (x ∷ z ∷ own) (y ∷ others) h l m n o = omega (arith, length-append own (y ∷ others))

  -- the joined ring is a ring
  pub joined_is_ring : common_else r s ≡ None → same_side r s ≡ false → is_ring (joined r s) ≡ true
  joined_is_ring h sides =
      let apart = (or_parts (same_segments r s) (passed_alike (positive r) (positive s)) sides).0 in
      let w = between r s ring second k in
      let long = at_least_three w.begin w.end k.own k.others w.rest w.round (some_own r s ring second k apart) (some_others r s ring second k apart) no_way_back in
      ap is_ring (joined_rests r s ring second k)
      ∙ canonical_is_ring (starts (k.own ++ k.others)) (omega (arith, long, length-map (k.own ++ k.others) (λ (e : Edge). e.0))) (rests_once h)

  -- ---- segments

  -- an edge of the joined ring is one of the first ring or of the other
  pub joined_in : (x : Edge) → In x (edges (joined r s))
      → (In x (edges r) × (is_common s x ≡ false)) ⊎ (In x (edges (other_of r s)) × (is_common r x ≡ false))
  joined_in x i = elim (in-append x k.own k.others (in_rotated (edges (joined r s)) (k.own ++ k.others) x (rotated-sym (k.own ++ k.others) (edges (joined r s)) (joined_edges r s ring second k)) i)) [
    | inl j ↦ inl (own_in x j, none_in (is_common s) k.own x k.are_own j)
    | inr j ↦ inr (others_in x j, none_in (is_common r) k.others x k.are_others j)
  ]
