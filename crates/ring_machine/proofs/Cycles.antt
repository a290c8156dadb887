-- The edges round a ring: a closed chain, begun elsewhere or gone round in reverse.
use Rattle.kit_words.proofs.Common.{◌≡◌, ◌≤◌, ◌+◌, ℕ, Bool, true, false, refl, sym, ap, ap₂, ◌∙◌, subst, List, [], ◌∷◌}
use Rattle.kit_words.proofs.Common.{◌++◌, length, map, reverse, inl, inr, arith, list_any, false≢true, append-nil}
use Rattle.kit_words.proofs.Common.{map-append, reverse-append, length-append, length-map, length-reverse, or_parts}
use Rattle.grid_geometry.specs.Common.{Position, Segment, segment_eq, Edge, links, edges}
use Rattle.grid_geometry.proofs.Common.{segment-comm}
use Rattle.ring_machine.specs.Common.{is_distinct, is_ring, canonical, Chain}
use Rattle.ring_machine.proofs.Canonical.{canonical_parts}
use Rattle.ring_machine.proofs.Edges.{edges_to, edges_is, edges_to-append, starts, chain_append}
use Rattle.ring_machine.proofs.Arcs.{flip, flipped, links-reverse, is_of}
use Rattle.ring_machine.proofs.StaysRing.{AtMostOne, distinct_swap}
use Rattle.ring_machine.proofs.StaysProper.{edges_start, ring_distinct, ring_long}
use Rattle.ring_machine.proofs.RingSegments.{ring_once}
use Rattle.ring_machine.proofs.Once.{one, times, times-append}
use Rattle.ring_machine.proofs.Spots.{Rotated}
use Rattle.ring_machine.proofs.First.{In, in_left, in_right, in-append}
use Rattle.ring_machine.proofs.Members.{in_swap}
use Rattle.ring_machine.proofs.SplitRings.{distinct_reversed}

-- ---- chains

-- the positions where the edges end
abbrev pub ends : List Edge → List Position
ends es = map (λ e. e.1) es

pub ring_chain : (a : Position) (rest : List Position) → Chain a (edges (a ∷ rest)) a
ring_chain a rest = on a rest
  where
    on : (b : Position) (more : List Position) → Chain b (links (b ∷ more ++ a ∷ [])) a
    on b [] = (refl, refl)
    on b (c ∷ more) = (refl, on c more)

pub chain_parts : (p : Position) (es fs : List Edge) (q : Position) → Chain p (es ++ fs) q
    → (m : Position) × Chain p es m × Chain m fs q
chain_parts p [] fs q h = (p, refl, h)
chain_parts p (e ∷ es) fs q h = let k = chain_parts e.1 es fs q h.1 in (k.0, (h.0, k.1), k.2)

-- where the edges end is where the next ones begin
pub chain_ends : (p : Position) (es : List Edge) (q : Position) → Chain p es q
    → p ∷ ends es ≡ starts es ++ q ∷ []
chain_ends p [] q h = ap (λ z. z ∷ []) h
chain_ends p (e ∷ es) q h = ap₂ (λ y z. y ∷ z) (sym h.0) (chain_ends e.1 es q h.1)

closed_ends : (p : Position) (es : List Edge) → Chain p es p → is_distinct (starts es) ≡ true
    → is_distinct (ends es) ≡ true
closed_ends p [] h d = refl
closed_ends p (e ∷ es) h d =
    ap is_distinct (chain_ends e.1 es p h.1 ∙ ap (λ z. starts es ++ z ∷ []) (sym h.0))
    ∙ distinct_swap (e.0 ∷ []) (starts es) d

-- ---- in reverse

pub flipped-append : (es fs : List Edge) → flipped (es ++ fs) ≡ flipped fs ++ flipped es
flipped-append es fs =
    ap reverse (map-append flip es fs) ∙ reverse-append (map flip es) (map flip fs)

pub starts-flipped : (es : List Edge) → starts (flipped es) ≡ reverse (ends es)
starts-flipped [] = refl
starts-flipped (e ∷ es) =
    ap starts (flipped-append (e ∷ []) es)
    ∙ map-append (λ (f : Edge). f.0) (flipped es) (flip e ∷ [])
    ∙ ap (λ z. z ++ e.1 ∷ []) (starts-flipped es)
    ∙ sym (reverse-append (e.1 ∷ []) (ends es))

ends-flipped : (es : List Edge) → ends (flipped es) ≡ reverse (starts es)
ends-flipped [] = refl
ends-flipped (e ∷ es) =
    ap ends (flipped-append (e ∷ []) es)
    ∙ map-append (λ (f : Edge). f.1) (flipped es) (flip e ∷ [])
    ∙ ap (λ z. z ++ e.0 ∷ []) (ends-flipped es)
    ∙ sym (reverse-append (e.0 ∷ []) (starts es))

pub chain-flipped : (p : Position) (es : List Edge) (q : Position) → Chain p es q
    → Chain q (flipped es) p
chain-flipped p [] q h = sym h
chain-flipped p (e ∷ es) q h =
    subst (λ z. Chain q z p) (sym (flipped-append (e ∷ []) es))
    (chain_append q (flipped es) e.1 (flip e ∷ []) p (chain-flipped e.1 es q h.1) (refl, h.0))

pub times-flipped : (s : Segment) (es : List Edge) → times s (flipped es) ≡ times s es
times-flipped s [] = refl
times-flipped s (e ∷ es) =
    ap (times s) (flipped-append (e ∷ []) es)
    ∙ times-append s (flipped es) (flip e ∷ [])
    ∙ ap₂ (λ y z. y + (one (segment_eq z s) + 0)) (times-flipped s es) (segment-comm e.1 e.0)
    ∙ turn (times s es) (one (is_of s e))
  where
    turn : (m n : ℕ) → m + (n + 0) ≡ n + m
    turn m n = omega arith

pub in_flipped : (e : Edge) (es : List Edge) → In e es → In (flip e) (flipped es)
in_flipped e [] h = absurd h
in_flipped e (f ∷ es) h = subst (In (flip e)) (sym (flipped-append (f ∷ []) es)) (elim h [
  | inl i ↦ in_right (flip e) (flipped es) (flip f ∷ []) (inl (ap flip i))
  | inr i ↦ in_left (flip e) (flipped es) (flip f ∷ []) (in_flipped e es i)
])

pub flipped_in : (e : Edge) (es : List Edge) → In e (flipped es) → In (flip e) es
flipped_in e [] h = absurd h
flipped_in e (f ∷ es) h = elim (in-append e (flipped es) (flip f ∷ []) (subst (In e) (flipped-append (f ∷ []) es) h)) [
  | inl i ↦ inr (flipped_in e es i)
  | inr i ↦ elim i [ inl j ↦ inl (ap flip j) | inr j ↦ absurd j ]
]

-- ---- begun elsewhere

pub in_rotated : {A : Type 0} (xs ys : List A) (x : A) → Rotated xs ys → In x xs → In x ys
in_rotated xs ys x r h = subst (In x) (sym r.to) (in_swap x r.us r.vs (subst (In x) r.from h))

pub rotated-sym : {A : Type 0} (xs ys : List A) → Rotated xs ys → Rotated ys xs
rotated-sym xs ys r = record { us = r.vs; vs = r.us; from = r.to; to = r.from }

pub edges_turned : (xs ys : List Position) → Rotated (edges (xs ++ ys)) (edges (ys ++ xs))
edges_turned [] ys = record { us = []; vs = edges ys; from = refl; to = ap edges (append-nil ys) ∙ sym (append-nil (edges ys)) }
edges_turned (x ∷ xs) [] = record { us = []; vs = edges (x ∷ xs); from = ap edges (append-nil (x ∷ xs)); to = sym (append-nil (edges (x ∷ xs))) }
edges_turned (x ∷ xs) (y ∷ ys) = record { us = edges_to y (x ∷ xs); vs = edges_to x (y ∷ ys); from = half x xs y ys; to = half y ys x xs }
  where
    half : (p : Position) (ps : List Position) (q : Position) (qs : List Position)
        → edges ((p ∷ ps) ++ q ∷ qs) ≡ edges_to q (p ∷ ps) ++ edges_to p (q ∷ qs)
    half p ps q qs = edges_is p (ps ++ q ∷ qs) ∙ edges_to-append p (p ∷ ps) (q ∷ qs)

-- a ring's edges and those of its canonical rotation
pub edges_canonical : (ring : List Position) → Rotated (edges ring) (edges (canonical ring))
edges_canonical ring =
    let parts = canonical_parts ring in
    subst (λ z. Rotated (edges ring) (edges z)) (sym parts.3)
    (subst (λ z. Rotated (edges z) (edges (parts.1 ++ parts.0))) (sym parts.2) (edges_turned parts.0 parts.1))

-- the reversed ring passes each edge in reverse
pub edges_reversed : (ring : List Position) → Rotated (flipped (edges ring)) (edges (reverse ring))
edges_reversed [] = record { us = []; vs = []; from = refl; to = refl }
edges_reversed (a ∷ rest) =
    subst (λ z. Rotated z (edges (reverse (a ∷ rest)))) (sym back)
    (subst (λ z. Rotated (edges (a ∷ reverse rest)) (edges z)) (sym (reverse-append (a ∷ []) rest)) (edges_turned (a ∷ []) (reverse rest)))
  where
    back : flipped (edges (a ∷ rest)) ≡ edges (a ∷ reverse rest)
    back = sym (links-reverse (a ∷ rest ++ a ∷ []))
        ∙ ap links (reverse-append (a ∷ rest) (a ∷ []) ∙ ap (λ z. a ∷ z) (reverse-append (a ∷ []) rest))

-- ---- what holds of the edges of a ring, wherever it begins

pub record Cycle (es : List Edge) : Type 0 where
  pub at : Position
  pub chain : Chain at es at
  pub starts_once : is_distinct (starts es) ≡ true
  pub ends_once : is_distinct (ends es) ≡ true
  pub once : (t : Segment) → times t es ≤ 1
  pub long : 3 ≤ length es

at_most : (s : Segment) (q : Position) (es : List Edge) → AtMostOne (is_of s) q es → times s es ≤ 1
at_most s q [] h = omega arith
at_most s q (e ∷ es) h = by (is_of s e) refl (at_most s q es h.1)
  where
    none : (fs : List Edge) → list_any (is_of s) fs ≡ false → times s fs ≡ 0
    none [] k = refl
    none (f ∷ fs) k =
        let l = or_parts (is_of s f) (list_any (is_of s) fs) k in
        ap₂ (λ y z. one y + z) l.0 (none fs l.1)

    by : (b : Bool) → is_of s e ≡ b → times s es ≤ 1 → one b + times s es ≤ 1
    by true k l = omega (arith, none es (h.0 k))
    by false k l = omega (arith, l)

-- a ring has as many edges as positions
pub length_edges : (ring : List Position) → length (edges ring) ≡ length ring
length_edges [] = refl
length_edges (p ∷ ps) = sym (length-map (edges (p ∷ ps)) (λ e. e.0)) ∙ ap length (edges_start p ps)

pub cycle_of : (ring : List Position) → is_ring ring ≡ true → Cycle (edges ring)
cycle_of [] h = absurd (false≢true h)
cycle_of (x ∷ []) h = absurd (false≢true h)
cycle_of (x ∷ y ∷ []) h = absurd (false≢true h)
cycle_of (x ∷ y ∷ z ∷ ps) h =
    let d = ring_distinct (x ∷ y ∷ z ∷ ps) h in
    let once = ap is_distinct (edges_start x (y ∷ z ∷ ps)) ∙ d in
    let c = ring_chain x (y ∷ z ∷ ps) in
    record {
      at = x;
      chain = c;
      starts_once = once;
      ends_once = closed_ends x (edges (x ∷ y ∷ z ∷ ps)) c once;
      once = λ t. at_most t x (edges (x ∷ y ∷ z ∷ ps)) (ring_once t x y z ps d);
      long = omega (arith, ring_long (x ∷ y ∷ z ∷ ps) h, length_edges (x ∷ y ∷ z ∷ ps));
    }

cycle_swap : (us vs : List Edge) → Cycle (us ++ vs) → Cycle (vs ++ us)
cycle_swap us vs c =
    let k = chain_parts c.at us vs c.at c.chain in
    record {
      at = k.0;
      chain = chain_append k.0 vs c.at us k.0 k.2 k.1;
      starts_once = turned (λ e. e.0) c.starts_once;
      ends_once = turned (λ e. e.1) c.ends_once;
      once = λ t. omega (arith, times-append t us vs, times-append t vs us, c.once t);
      long = omega (arith, length-append us vs, length-append vs us, c.long);
    }
  where
    turned : (f : Edge → Position) → is_distinct (map f (us ++ vs)) ≡ true
        → is_distinct (map f (vs ++ us)) ≡ true
    turned f d = ap is_distinct (map-append f vs us)
        ∙ distinct_swap (map f us) (map f vs) (ap is_distinct (sym (map-append f us vs)) ∙ d)

pub cycle_rotated : (es fs : List Edge) → Rotated es fs → Cycle es → Cycle fs
cycle_rotated es fs r c = subst Cycle (sym r.to) (cycle_swap r.us r.vs (subst Cycle r.from c))

pub cycle_flipped : (es : List Edge) → Cycle es → Cycle (flipped es)
cycle_flipped es c = record {
  at = c.at;
  chain = chain-flipped c.at es c.at c.chain;
  starts_once = ap is_distinct (starts-flipped es) ∙ distinct_reversed (ends es) c.ends_once;
  ends_once = ap is_distinct (ends-flipped es) ∙ distinct_reversed (starts es) c.starts_once;
  once = λ t. omega (arith, times-flipped t es, c.once t);
  long = omega (arith, length-reverse (map flip es), length-map es flip, c.long);
}

pub cycle_reversed : (ring : List Position) → is_ring ring ≡ true → Cycle (edges (reverse ring))
cycle_reversed ring h = cycle_rotated (flipped (edges ring)) (edges (reverse ring)) (edges_reversed ring) (cycle_flipped (edges ring) (cycle_of ring h))
