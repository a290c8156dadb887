-- The arcs of a document: each of its segments stands in exactly one and there once.
use Rattle.kit_words.proofs.Common.{◌≡◌, ℕ, ◌≤◌, ◌+◌, Bool, true, false, refl, sym, ap, ap₂, ◌∙◌, subst, cond, List, []}
use Rattle.kit_words.proofs.Common.{◌∷◌, ◌++◌, ◌||◌, arith, map, flat_map, AllByRecursion, list_any, count_by}
use Rattle.kit_words.proofs.Common.{false≢true, append-nil, flat_map-append, sum_by-cons, sum_by-append, or_parts}
use Rattle.grid_geometry.specs.Common.{Position, Segment, segment_eq, Edge, links, edges}
use Rattle.ring_machine.specs.Common.{segment_of, is_ring, Document, rings, all_segments, is_segment, around}
use Rattle.ring_machine.specs.Common.{is_junction, arc_segments}
use Rattle.ring_machine.proofs.Common.{edges_to, edges_is, edges_to-append, is_of, AtMostOne, ring_once}
use Rattle.ring_machine.proofs.Common.{segment_eq-sym, In, times, one, times-append, IsPiece}
use Rattle.map_text.specs.Common.{begun, cut_round, pieces, arcs_of}
use Rattle.map_text.proofs.Lists.{each-flat_map}
use Rattle.map_text.proofs.Cuts.{cut_links}
use Rattle.map_text.proofs.OnceEach.{Simple, Arcs, with_pieces-arcs, with_pieces-times}
use Rattle.map_text.proofs.Around.{first_of, neighbours}
use Rattle.map_text.proofs.Junctions.{Ring, ring_parts, begun_rotated, next, k, ring_pieces}

-- ---- the edges of a ring's pieces

round_links : (j : Position → Bool) (ps : List Position) → flat_map links (cut_round j ps) ≡ edges ps
round_links j [] = refl
round_links j (q ∷ qs) = cut_links j q (qs ++ q ∷ [])

half : (p : Position) (ps : List Position) (q : Position) (qs : List Position) → edges ((p ∷ ps) ++ q ∷ qs) ≡ edges_to q (p ∷ ps) ++ edges_to p (q ∷ qs)
half p ps q qs = edges_is p (ps ++ q ∷ qs) ∙ edges_to-append p (p ∷ ps) (q ∷ qs)

times_turned : (s : Segment) (us vs : List Position) → times s (edges (us ++ vs)) ≡ times s (edges (vs ++ us))
times_turned s [] vs = ap (λ z. times s (edges z)) (sym (append-nil vs))
times_turned s (u ∷ us) [] = ap (λ z. times s (edges z)) (append-nil (u ∷ us))
times_turned s (u ∷ us) (v ∷ vs) =
    let a = ap (times s) (half u us v vs) ∙ times-append s (edges_to v (u ∷ us)) (edges_to u (v ∷ vs)) in
    let b = ap (times s) (half v vs u us) ∙ times-append s (edges_to u (v ∷ vs)) (edges_to v (u ∷ us)) in
    omega (arith, a, b)

ring_times : (j : Position → Bool) (s : Segment) (ring : List Position) → times s (flat_map links (pieces j ring)) ≡ times s (edges ring)
ring_times j s ring =
    let r = begun_rotated j ring in
    ap (times s) (round_links j (begun j ring)) ∙ ap (λ z. times s (edges z)) r.to ∙ times_turned s r.vs r.us ∙ ap (λ z. times s (edges z)) (sym r.from)

all_times : (j : Position → Bool) (s : Segment) (rs : List (List Position)) → times s (flat_map links (flat_map (pieces j) rs)) ≡ times s (flat_map edges rs)
all_times j s [] = refl
all_times j s (r ∷ rs) =
    let a = ap (times s) (flat_map-append links (pieces j r) (flat_map (pieces j) rs)) ∙ times-append s (flat_map links (pieces j r)) (flat_map links (flat_map (pieces j) rs)) in
    let b = times-append s (edges r) (flat_map edges rs) in
    omega (arith, a, b, ring_times j s r, all_times j s rs)

-- ---- a ring has each segment once

none_times : (s : Segment) (es : List Edge) → list_any (is_of s) es ≡ false → times s es ≡ 0
none_times s [] h = refl
none_times s (e ∷ es) h = let n = or_parts (is_of s e) (list_any (is_of s) es) h in ap₂ (λ b m. one b + m) n.0 (none_times s es n.1)

at_most : (s : Segment) (q : Position) (es : List Edge) → AtMostOne (is_of s) q es → times s es ≤ 1
at_most s q [] h = omega arith
at_most s q (e ∷ es) h = by (is_of s e) refl (at_most s q es h.1)
  where
    by : (b : Bool) → is_of s e ≡ b → times s es ≤ 1 → one b + times s es ≤ 1
    by true f t = omega (arith, none_times s es (h.0 f))
    by false f t = omega arith

ring_at_most : (s : Segment) (ring : List Position) → Ring ring → times s (edges ring) ≤ 1
ring_at_most s [] r = omega arith
ring_at_most s (x ∷ []) r = absurd (omega (arith, r.long))
ring_at_most s (x ∷ y ∷ []) r = absurd (omega (arith, r.long))
ring_at_most s (x ∷ y ∷ z ∷ ps) r = at_most s x (edges (x ∷ y ∷ z ∷ ps)) (ring_once s x y z ps r.distinct)

-- ---- all pieces

module _ (c : Position → Bool) (nx : Position → Position → Position) where
  all_simple : (pss : List (List Position)) → AllByRecursion (IsPiece c nx) pss → ((s : Segment) → times s (flat_map links pss) ≤ 1) → AllByRecursion (Simple c nx) pss
  all_simple [] h t = tt
  all_simple (ps ∷ pss) h t =
      (record { piece = h.0; once = λ s. omega (arith, t s, times-append s (links ps) (flat_map links pss)) }, all_simple pss h.1 (λ s. omega (arith, t s, times-append s (links ps) (flat_map links pss))))

-- ---- how often a segment stands in a list

abbrev one_of : Segment → Segment → ℕ
one_of s t = cond (segment_eq s t) 1 0

count_is : (s : Segment) (es : List Edge) → count_by (segment_eq s) (map segment_of es) ≡ times s es
count_is s [] = refl
count_is s (e ∷ es) = omega (
  arith,
  sum_by-cons (one_of s) (segment_of e) (map segment_of es),
  ap one (segment_eq-sym s (segment_of e)),
  count_is s es,
)

count_flat : (s : Segment) (f : List Position → List Edge) (pss : List (List Position))
    → count_by (segment_eq s) (flat_map (λ ps. map segment_of (f ps)) pss) ≡ times s (flat_map f pss)
count_flat s f [] = refl
count_flat s f (ps ∷ pss) =
    let a = sum_by-append (one_of s) (map segment_of (f ps)) (flat_map (λ qs. map segment_of (f qs)) pss) in
    let b = times-append s (f ps) (flat_map f pss) in
    omega (arith, a, b, count_is s (f ps), count_flat s f pss)

any_count : (s : Segment) (ss : List Segment)
    → (list_any (segment_eq s) ss ≡ true → 1 ≤ count_by (segment_eq s) ss)
    × (list_any (segment_eq s) ss ≡ false → count_by (segment_eq s) ss ≡ 0)
any_count s [] = (λ h. absurd (false≢true h), λ h. refl)
any_count s (t ∷ ts) = by (segment_eq s t) (count_by (segment_eq s) (t ∷ ts)) (sum_by-cons (one_of s) t ts) (any_count s ts)
  where
    by : (b : Bool) (n : ℕ) → n ≡ cond b 1 0 + count_by (segment_eq s) ts
        → (list_any (segment_eq s) ts ≡ true → 1 ≤ count_by (segment_eq s) ts) × (list_any (segment_eq s) ts ≡ false → count_by (segment_eq s) ts ≡ 0)
        → ((b || list_any (segment_eq s) ts) ≡ true → 1 ≤ n) × ((b || list_any (segment_eq s) ts) ≡ false → n ≡ 0)
    by true n e h = (λ f. omega arith, λ f. absurd (false≢true (sym f)))
    by false n e h = (λ f. let m = h.0 f in omega arith, λ f. let m = h.1 f in omega arith)

-- ---- the arcs of a document

-- d is a document whose rings are rings
module _ (d : Document) (are : (ring : List Position) → In ring (rings d) → is_ring ring ≡ true) where
  abbrev pub junction : Position → Bool
  junction p = is_junction d p

  abbrev pub beside : Position → Segment
  beside p = first_of (around d p)

  pub proper : (ring : List Position) → In ring (rings d) → Ring ring
  proper ring i = ring_parts ring (are ring i)

  -- where pieces end, and how one goes on
  abbrev pub ends : Position → Bool
  ends p = k junction beside (rings d) proper (neighbours d) p

  abbrev pub goes : Position → Position → Position
  goes u v = next junction beside (rings d) proper (neighbours d) u v

  pub simple : AllByRecursion (Simple ends goes) (flat_map (pieces junction) (rings d))
  simple = each-flat_map (Simple ends goes) (pieces junction) (rings d) (λ ring i. all_simple ends goes (pieces junction ring)
      (ring_pieces junction beside (rings d) proper (neighbours d) ring i)
      (λ s. let e = ring_times junction s ring in let m = ring_at_most s ring (proper ring i) in omega arith))

  arcs_right : Arcs ends goes (arcs_of d)
  arcs_right = with_pieces-arcs ends goes [] (flat_map (pieces junction) (rings d)) (record { pieces = tt; once = λ s. omega arith }) simple

  -- each segment of the rings stands in one arc and there once, and no other does
  once : (s : Segment)
      → (times s (flat_map edges (rings d)) ≡ 0 → times s (flat_map links (arcs_of d)) ≡ 0)
      × (1 ≤ times s (flat_map edges (rings d)) → times s (flat_map links (arcs_of d)) ≡ 1)
  once s =
      let c = with_pieces-times ends goes s [] (flat_map (pieces junction) (rings d)) in
      let no_more = c.no_more in
      let e = all_times junction s (rings d) in
      let m = arcs_right.once s in
      (λ h. omega arith, λ h. let n = c.new (omega arith) in omega arith)

  -- as the definition of a saved text says it
  pub segments_once : (s : Segment) → count_by (segment_eq s) (arc_segments (arcs_of d)) ≡ cond (is_segment d s) 1 0
  segments_once s =
      by (is_segment d s) refl (count_flat s links (arcs_of d)) (count_flat s edges (rings d)) (any_count s (all_segments d)) (once s)
    where
      by : (t : Bool) → is_segment d s ≡ t
          → count_by (segment_eq s) (arc_segments (arcs_of d)) ≡ times s (flat_map links (arcs_of d))
          → count_by (segment_eq s) (all_segments d) ≡ times s (flat_map edges (rings d))
          → (is_segment d s ≡ true → 1 ≤ count_by (segment_eq s) (all_segments d)) × (is_segment d s ≡ false → count_by (segment_eq s) (all_segments d) ≡ 0)
          → (times s (flat_map edges (rings d)) ≡ 0 → times s (flat_map links (arcs_of d)) ≡ 0) × (1 ≤ times s (flat_map edges (rings d)) → times s (flat_map links (arcs_of d)) ≡ 1)
          → count_by (segment_eq s) (arc_segments (arcs_of d)) ≡ cond t 1 0
      by true e a b c o = a ∙ o.1 (subst (λ n. 1 ≤ n) b (c.0 e))
      by false e a b c o = a ∙ o.0 (sym b ∙ c.1 e)
