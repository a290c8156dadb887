-- Rings that are turned: what stays, and what stands beside a position of them.
use Rattle.kit_words.proofs.Common.{◌≡◌, ◌≢◌, ◌≤◌, Bool, true, false, refl, sym, ap, ◌∙◌, subst, List, [], ◌∷◌, ◌++◌}
use Rattle.kit_words.proofs.Common.{length, inl, inr, arith, not, list_any, false≢true, length-append, list_any-append}
use Rattle.kit_words.proofs.Common.{and_parts, not-true, or_comm}
use Rattle.grid_geometry.specs.Common.{Position, Edge, edges, links}
use Rattle.ring_machine.specs.Common.{has, is_distinct, is_ring, canonical}
use Rattle.ring_machine.proofs.Common.{Pivot, pivot_of, canonical_parts, In, in_right, in-has, Rotated}
use Rattle.ring_machine.proofs.Common.{rotated-trans, rotated_distinct, NextTo, second, last, Beside}
use Rattle.ring_machine.proofs.Common.{ring_distinct, distinct_swap, in_swap, in_split}
use Rattle.ring_store.proofs.Common.{edges_swap}

-- ---- the canonical ring only turns

pub distinct_turned : (ps : List Position) → is_distinct (canonical ps) ≡ true
    → is_distinct ps ≡ true
distinct_turned ps d =
    let parts = canonical_parts ps in
    ap is_distinct parts.2 ∙ distinct_swap parts.1 parts.0 (ap is_distinct (sym parts.3) ∙ d)

-- what becomes a ring by turning has a least position
pub ring_pivot : (ps : List Position) → is_ring (canonical ps) ≡ true → Pivot ps
ring_pivot [] h = absurd (false≢true h)
ring_pivot (p ∷ ps) h = pivot_of p ps (distinct_turned (p ∷ ps) (ring_distinct (canonical (p ∷ ps)) h))

pub any_swap : {A : Type 0} (test : A → Bool) (xs ys : List A)
    → list_any test (xs ++ ys) ≡ list_any test (ys ++ xs)
any_swap test xs ys = list_any-append test xs ys ∙ or_comm (list_any test xs) (list_any test ys) ∙ sym (list_any-append test ys xs)

-- a turned ring has the same edges
pub edges_turned : (test : Edge → Bool) (ps qs : List Position) → Rotated ps qs
    → list_any test (edges ps) ≡ list_any test (edges qs)
edges_turned test ps qs r =
    let sw = edges_swap r.us r.vs in
    ap (λ z. list_any test (edges z)) r.from ∙ ap (list_any test) sw.2 ∙ any_swap test sw.0 sw.1
    ∙ sym (ap (λ z. list_any test (edges z)) r.to ∙ ap (list_any test) sw.3)

pub edge_turned : (ps qs : List Position) → Rotated ps qs → (e : Edge) → In e (edges qs)
    → In e (edges ps)
edge_turned ps qs r e h =
    let sw = edges_swap r.us r.vs in
    subst (In e) (sym (ap edges r.from ∙ sw.2)) (in_swap e sw.1 sw.0 (subst (In e) (ap edges r.to ∙ sw.3) h))

-- ---- a ring begun at one of its positions

-- begun at p, the ring goes on to x, and comes back from y
pub record BegunAt (p : Position) (ring : List Position) : Type 0 where
  pub x : Position
  pub mid : List Position
  pub y : Position
  pub turned : Rotated ring (p ∷ x ∷ mid ++ y ∷ [])

with_last : (q : Position) (qs : List Position)
    → (ys : List Position) × (y : Position) × (q ∷ qs ≡ ys ++ y ∷ [])
with_last q [] = ([], q, refl)
with_last q (r ∷ qs) = let k = with_last r qs in (q ∷ k.0, k.1, ap (λ z. q ∷ z) k.2)

pub begun_at : (p : Position) (ring : List Position) → In p ring → 3 ≤ length ring → BegunAt p ring
begun_at p ring h l = by (in_split p ring h)
  where
    by : (us : List Position) × (vs : List Position) × (ring ≡ us ++ p ∷ vs) → BegunAt p ring
    by k = go (k.1 ++ k.0) refl
      where
        long : 2 ≤ length (k.1 ++ k.0)
        long = omega (arith, l, ap length k.2, length-append k.0 (p ∷ k.1), length-append k.1 k.0)

        go : (rest : List Position) → k.1 ++ k.0 ≡ rest → BegunAt p ring
        go [] e = absurd (omega (arith, long, ap length e))
        go (x ∷ []) e = absurd (omega (arith, long, ap length e))
        go (x ∷ z ∷ more) e =
            let tail = with_last z more in
            record { x = x; mid = tail.0; y = tail.1; turned = record { us = k.0; vs = p ∷ k.1; from = k.2; to = ap (λ r. p ∷ r) (ap (λ r. x ∷ r) (sym tail.2) ∙ sym e) } }

module _ (p : Position) (ring : List Position) (d : is_distinct ring ≡ true) (t : BegunAt p ring) where
  abbrev begun : List Position
  begun = p ∷ t.x ∷ t.mid ++ t.y ∷ []

  begun_distinct : is_distinct begun ≡ true
  begun_distinct = rotated_distinct ring begun t.turned d

  after_distinct : (has (t.x ∷ t.mid ++ t.y ∷ []) p ≡ false) × (has (t.mid ++ t.y ∷ []) t.x ≡ false) × (is_distinct (t.mid ++ t.y ∷ []) ≡ true)
  after_distinct =
      let a = and_parts (not (has (t.x ∷ t.mid ++ t.y ∷ []) p)) (is_distinct (t.x ∷ t.mid ++ t.y ∷ [])) begun_distinct in
      let b = and_parts (not (has (t.mid ++ t.y ∷ []) t.x)) (is_distinct (t.mid ++ t.y ∷ [])) a.1 in
      (not-true _ a.0, not-true _ b.0, b.1)

  absent : (ps : List Position) (q r : Position) → has ps q ≡ false → In r ps → q ≢ r
  absent ps q r h i e = false≢true (sym h ∙ ap (has ps) e ∙ in-has r ps i)

  -- the others lack p
  pub rest_lacks : has (t.x ∷ t.mid ++ t.y ∷ []) p ≡ false
  rest_lacks = after_distinct.0

  -- the two neighbours are two, and neither is p
  pub sides_differ : t.x ≢ t.y
  sides_differ = absent (t.mid ++ t.y ∷ []) t.x t.y after_distinct.1 (in_right t.y t.mid (t.y ∷ []) (inl refl))

  pub next_differs : p ≢ t.x
  next_differs = absent (t.x ∷ t.mid ++ t.y ∷ []) p t.x after_distinct.0 (inl refl)

  pub last_differs : p ≢ t.y
  last_differs = absent (t.x ∷ t.mid ++ t.y ∷ []) p t.y after_distinct.0 (inr (in_right t.y t.mid (t.y ∷ []) (inl refl)))

  -- the edges at p
  pub edge_on : In (p, t.x) (edges ring)
  edge_on = edge_turned ring begun t.turned (p, t.x) (inl refl)

  pub edge_back : In (t.y, p) (edges ring)
  edge_back = edge_turned ring begun t.turned (t.y, p) (inr (last_link t.x t.mid))
    where
      last_link : (q : Position) (qs : List Position) → In (t.y, p) (links (q ∷ (qs ++ t.y ∷ []) ++ p ∷ []))
      last_link q [] = inr (inl refl)
      last_link q (r ∷ qs) = inr (last_link r qs)

  -- p stands beside each of the two
  pub beside_next : Beside p t.x ring
  beside_next = by (with_first t.mid)
    where
      with_first : (qs : List Position) → (w : Position) × (ws : List Position) × (qs ++ t.y ∷ [] ≡ w ∷ ws)
      with_first [] = (t.y, [], refl)
      with_first (q ∷ qs) = (q, qs ++ t.y ∷ [], refl)

      r : Rotated ring (t.x ∷ (t.mid ++ t.y ∷ []) ++ p ∷ [])
      r = rotated-trans ring begun (t.x ∷ (t.mid ++ t.y ∷ []) ++ p ∷ []) t.turned (record { us = p ∷ []; vs = t.x ∷ t.mid ++ t.y ∷ []; from = refl; to = refl })

      by : (w : Position) × (ws : List Position) × (t.mid ++ t.y ∷ [] ≡ w ∷ ws) → Beside p t.x ring
      by k = record {
        us = r.us;
        vs = r.vs;
        is = r.from;
        begun = subst (NextTo p t.x) (ap (λ z. t.x ∷ z ++ p ∷ []) (sym k.2) ∙ r.to) (last k.0 k.1);
        distinct = distinct_swap r.us r.vs (ap is_distinct (sym r.from) ∙ d);
      }

  pub beside_last : Beside p t.y ring
  beside_last =
      let r : Rotated ring (t.y ∷ p ∷ t.x ∷ t.mid) = rotated-trans ring begun (t.y ∷ p ∷ t.x ∷ t.mid) t.turned (record { us = p ∷ t.x ∷ t.mid; vs = t.y ∷ []; from = refl; to = refl }) in
      record {
        us = r.us;
        vs = r.vs;
        is = r.from;
        begun = subst (NextTo p t.y) r.to (second t.x t.mid);
        distinct = distinct_swap r.us r.vs (ap is_distinct (sym r.from) ∙ d);
      }
