-- The edges of a ring by their places, and that each segment stands there once.
use Rattle.kit_words.proofs.Common.{◌≡◌, ◌≢◌, ◌≤◌, ◌<◌, ◌+◌, ℕ, Bool, zero, suc, true, refl, sym, ap, ap₂, ◌∙◌, subst}
use Rattle.kit_words.proofs.Common.{List, [], ◌∷◌, ◌++◌, map, length, take, drop, get_or, inl, inr, arith, Contains}
use Rattle.kit_words.proofs.Common.{false≢true, length-append, length-map, map-append, get_or_append_left}
use Rattle.kit_words.proofs.Common.{get_or-append-add, drop_more, take-append-drop}
use Rattle.ring_machine.proofs.Common.{in-map, is_of, In, in_right, contains_in, in_contains, in_mapped, in_any}
use Rattle.ring_machine.proofs.Common.{segment_ordered, ring_once, AtMostOne}
use Rattle.grid_geometry.specs.Common.{Position, Segment, segment, segment_eq}
use Rattle.grid_geometry.specs.Ring as geometry
use Rattle.ring_machine.specs.Common.{is_distinct, are_distinct}
use Rattle.vertex_index.specs.Common.{Placement, AreDistinct, place}
use Rattle.arc_tables.specs.Common.{Edge, links, edges, begins}
use Rattle.ring_store.specs.Common.{GoesRound, IsRound, sides}
use Rattle.ring_store.proofs.KeyRings.{begins_edges, begins_round, edges_round, edge_apart, edge_ends, laid, goes_round}
use Rattle.ring_store.proofs.Places.{IsKept, distinct_places}

-- ---- the edge at a place

link_at : (ps : List ℕ) (at : ℕ) (d : Edge) → at + 1 < length ps
    → get_or (links ps) at d ≡ (get_or ps at d.0, get_or ps (at + 1) d.1)
link_at [] at d l = absurd (omega (arith, l))
link_at (p ∷ []) at d l = absurd (omega (arith, l))
link_at (p ∷ q ∷ ps) zero d l = refl
link_at (p ∷ q ∷ ps) (suc at) d l =
    let on : suc (at + 1) ≡ suc at + 1 = omega arith in
    link_at (q ∷ ps) at d (omega (arith, l)) ∙ ap (λ n. (get_or (q ∷ ps) at d.0, get_or (p ∷ q ∷ ps) n d.1)) on

around_first : (ks : List ℕ) (d : ℕ) → 1 ≤ length ks → get_or (take 1 ks) 0 d ≡ get_or ks 0 d
around_first [] d l = absurd (omega (arith, l))
around_first (k ∷ ks) d l = refl

around_length : (ks : List ℕ) → 1 ≤ length ks → length (ks ++ take 1 ks) ≡ length ks + 1
around_length [] l = absurd (omega (arith, l))
around_length (k ∷ ks) l = length-append (k ∷ ks) (k ∷ [])

-- an edge begins at a key, and ends at the next one
pub edge_next : (ks : List ℕ) (at a b : ℕ) → at + 1 < length ks → a ≡ get_or ks at a
    → b ≡ get_or ks (at + 1) b → (a, b) ≡ get_or (edges ks) at (a, b)
edge_next ks at a b l here next =
    ap₂ (λ x y. (x, y))
    (here ∙ sym (get_or_append_left ks (take 1 ks) a at (omega (arith, l))))
    (next ∙ sym (get_or_append_left ks (take 1 ks) b (at + 1) l))
    ∙ sym (link_at (ks ++ take 1 ks) at (a, b) (omega (arith, l, around_length ks (omega (arith, l)))))

-- or at the first one
pub edge_last : (ks : List ℕ) (at a b : ℕ) → at < length ks → length ks ≤ at + 1
    → a ≡ get_or ks at a → b ≡ get_or ks 0 b → (a, b) ≡ get_or (edges ks) at (a, b)
edge_last ks at a b l m here first =
    ap₂ (λ x y. (x, y))
    (here ∙ sym (get_or_append_left ks (take 1 ks) a at l))
    (first ∙ sym (around_first ks b (omega (arith, l))) ∙ sym (get_or-append-add ks (take 1 ks) 0 b) ∙ ap (λ n. get_or (ks ++ take 1 ks) n b) over)
    ∙ sym (link_at (ks ++ take 1 ks) at (a, b) (omega (arith, l, around_length ks (omega (arith, l)))))
  where
    over : length ks + 0 ≡ at + 1
    over = omega (arith, l, m)

length-links : (p : ℕ) (ps : List ℕ) → length (links (p ∷ ps)) ≡ length ps
length-links p [] = refl
length-links p (q ∷ ps) = omega (arith, length-links q ps)

-- as many edges as keys
pub length-edges : (ks : List ℕ) → 1 ≤ length ks → length (edges ks) ≡ length ks
length-edges [] l = absurd (omega (arith, l))
length-edges (k ∷ ks) l = omega (arith, length-links k (ks ++ k ∷ []), length-append ks (k ∷ []))

-- ---- the keys at which edges begin

-- a ring's edges are those of its keys
pub edges_again : (es : List Edge) → GoesRound es → edges (begins es) ≡ es
edges_again es g = ap edges (begins_round es g) ∙ sym g.along

-- keys along which a ring goes can be gone along where each is that of a vertex
pub round_keys : (places : Placement) (ks : List ℕ) → GoesRound (edges ks)
    → ((k : ℕ) → Contains ks k → IsKept places k) → IsRound places ks
round_keys places ks g h =
    let same : g.keys ≡ ks = sym (begins_round (edges ks) g) ∙ begins_edges ks in
    record {
      long = subst (λ z. 3 ≤ length z) same g.long;
      different = ap are_distinct (sym same) ∙ g.different;
      placed = h;
    }

-- ---- the edges of a ring's keys

module _ (places : Placement) (ks : List ℕ) (r : IsRound places ks) where
  -- the edges between positions
  pub laid_edges : geometry.edges (map (place places) ks) ≡ map (laid (place places)) (edges ks)
  laid_edges =
      ap (λ z. geometry.edges (map (place places) z)) (sym (begins_edges ks))
      ∙ edges_round (place places) (edges ks) (goes_round places ks r)

  -- an edge goes from one vertex to another
  pub edge_joins : (at : ℕ) (e : Edge) → at < length (edges ks) → e ≡ get_or (edges ks) at e
      → IsKept places e.0 × IsKept places e.1 × (e.0 ≢ e.1)
  edge_joins at e l here =
      let i : In e (edges ks) = contains_in (edges ks) e (at, l, sym here) in
      let g = goes_round places ks r in
      let ends = edge_ends (edges ks) g e i in (
        r.placed e.0 (in_contains ks e.0 (subst (In e.0) (begins_edges ks) ends.0)),
        r.placed e.1 (in_contains ks e.1 (subst (In e.1) (begins_edges ks) ends.1)),
        edge_apart (edges ks) g e i,
      )

-- ---- each segment once

-- a test that one edge at most passes fails before an edge that passes
none_before : (test : geometry.Edge → Bool) (q : Position) (xs : List geometry.Edge) (e : geometry.Edge) (ys : List geometry.Edge)
    → AtMostOne test q (xs ++ e ∷ ys) → test e ≡ true → (f : geometry.Edge) → In f xs → test f ≡ true → ⊥
none_before test q [] e ys h t f i u = absurd i
none_before test q (x ∷ xs) e ys h t f (inl s) u =
    false≢true (sym (h.0 (ap test s ∙ u)) ∙ in_any test e (xs ++ e ∷ ys) (in_right e xs (e ∷ ys) (inl refl)) t)
none_before test q (x ∷ xs) e ys h t f (inr i) u = none_before test q xs e ys h.1 t f i u

once_round : (s : Segment) (ps : List Position) → 3 ≤ length ps → is_distinct ps ≡ true
    → (q : Position) × AtMostOne (is_of s) q (geometry.edges ps)
once_round s [] l d = absurd (omega (arith, l))
once_round s (x ∷ []) l d = absurd (omega (arith, l))
once_round s (x ∷ y ∷ []) l d = absurd (omega (arith, l))
once_round s (x ∷ y ∷ z ∷ ps) l d = (x, ring_once s x y z ps d)

module _ (places : Placement) (distinct : AreDistinct places) (ks : List ℕ) (r : IsRound places ks) where
  -- none of the edges before one has its segment
  pub side_once : (at : ℕ) (e : Edge) → at < length (edges ks) → e ≡ get_or (edges ks) at e
      → Contains (sides places (take at (edges ks))) (segment (place places e.0) (place places e.1)) → ⊥
  side_once at e l here c =
      let s = segment (place places e.0) (place places e.1) in
      let f = in_mapped (λ (x : Edge). segment (place places x.0) (place places x.1)) s (take at (edges ks)) (contains_in (sides places (take at (edges ks))) s c) in
      let parts : edges ks ≡ take at (edges ks) ++ e ∷ drop (at + 1) (edges ks)
      = sym (take-append-drop at (edges ks)) ∙ ap (λ z. take at (edges ks) ++ z) (drop_more (edges ks) at e l ∙ ap (λ z. z ∷ drop (at + 1) (edges ks)) (sym here)) in
      let once = once_round s (map (place places) ks) (omega (arith, r.long, length-map ks (place places)))
      (distinct_places places distinct ks (λ k i. r.placed k (in_contains ks k i)) r.different) in
      none_before (is_of s) once.0 (map (laid (place places)) (take at (edges ks))) (laid (place places) e) (map (laid (place places)) (drop (at + 1) (edges ks)))
      (subst (AtMostOne (is_of s) once.0) (laid_edges places ks r ∙ ap (map (laid (place places))) parts ∙ map-append (laid (place places)) (take at (edges ks)) (e ∷ drop (at + 1) (edges ks))) once.1)
      (segment_ordered.eq-refl s) (laid (place places) f.0) (in-map (laid (place places)) f.0 (take at (edges ks)) f.1)
      (ap (segment_eq (segment (place places f.0.0) (place places f.0.1))) (sym f.2) ∙ segment_ordered.eq-refl (segment (place places f.0.0) (place places f.0.1)))
