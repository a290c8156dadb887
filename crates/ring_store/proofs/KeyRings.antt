-- Rings that are begun elsewhere, and rings of positions that go along keys.
use Rattle.kit_words.proofs.Common.{◌≡◌, ◌≢◌, ◌≤◌, ℕ, Bool, true, false, refl, sym, ap, ap₂, ◌∙◌, subst, List, [], ◌∷◌}
use Rattle.kit_words.proofs.Common.{◌++◌, ◌+◌, map, length, ◌||◌, ◌&&◌, ◌⊎◌, inl, inr, arith, ◌==◌, not, list_any}
use Rattle.kit_words.proofs.Common.{false≢true, Decides-eqb, append-nil, map-append, and_parts, or_parts, not-true}
use Rattle.grid_geometry.specs.Common.{Position, Segment, segment}
use Rattle.grid_geometry.specs.Ring as geometry
use Rattle.ring_machine.specs.Common.{canonical, between_each, spots, are_distinct}
use Rattle.ring_machine.proofs.Common.{canonical_parts, edges_to, edges_to-append, edges_is, In}
use Rattle.ring_machine.proofs.Common.{in-append, links-append, in_swap}
use Rattle.vertex_index.specs.Common.{Placement}
use Rattle.arc_tables.specs.Common.{Edge, links, is_seg, one, times, edges, begins}
use Rattle.arc_tables.proofs.Common.{ends_of}
use Rattle.ring_store.specs.Common.{GoesRound, IsRound}

-- ---- a ring begun elsewhere

pub edges_swap : (ps qs : List Position)
    → (es : List geometry.Edge) × (fs : List geometry.Edge) × (geometry.edges (ps ++ qs) ≡ es ++ fs) × (geometry.edges (qs ++ ps) ≡ fs ++ es)
edges_swap [] qs = ([], geometry.edges qs, refl, ap geometry.edges (append-nil qs) ∙ sym (append-nil (geometry.edges qs)))
edges_swap (p ∷ ps) [] = (geometry.edges (p ∷ ps), [], ap geometry.edges (append-nil (p ∷ ps)) ∙ sym (append-nil (geometry.edges (p ∷ ps))), refl)
edges_swap (p ∷ ps) (q ∷ qs) = (edges_to q (p ∷ ps), edges_to p (q ∷ qs), half p ps q qs, half q qs p ps)
  where
    half : (p : Position) (ps : List Position) (q : Position) (qs : List Position)
        → geometry.edges ((p ∷ ps) ++ q ∷ qs) ≡ edges_to q (p ∷ ps) ++ edges_to p (q ∷ qs)
    half p ps q qs = edges_is p (ps ++ q ∷ qs) ∙ edges_to-append p (p ∷ ps) (q ∷ qs)

-- the canonical form has the same edges
pub edge_of_canonical : (ps : List Position) (e : geometry.Edge)
    → In e (geometry.edges (canonical ps)) → In e (geometry.edges ps)
edge_of_canonical ps e h =
    let parts = canonical_parts ps in
    let sw = edges_swap parts.0 parts.1 in
    subst (In e) (sym (ap geometry.edges parts.2 ∙ sw.2))
    (in_swap e sw.1 sw.0 (subst (In e) (ap geometry.edges parts.3 ∙ sw.3) h))

pub edge_in_canonical : (ps : List Position) (e : geometry.Edge)
    → In e (geometry.edges ps) → In e (geometry.edges (canonical ps))
edge_in_canonical ps e h =
    let parts = canonical_parts ps in
    let sw = edges_swap parts.0 parts.1 in
    subst (In e) (sym (ap geometry.edges parts.3 ∙ sw.3))
    (in_swap e sw.0 sw.1 (subst (In e) (ap geometry.edges parts.2 ∙ sw.2) h))

pub of_canonical : (ps : List Position) (p : Position) → In p (canonical ps) → In p ps
of_canonical ps p h =
    let parts = canonical_parts ps in
    subst (In p) (sym parts.2) (in_swap p parts.1 parts.0 (subst (In p) parts.3 h))

-- ---- what stands beside a position

-- a place with its neighbours is where two edges meet
beside_links : (as' : List Position) (u : Position × Segment) → In u (between_each as')
    → (a : Position) × (c : Position) × (u.1 ≡ segment a c) × In (a, u.0) (geometry.links as') × In (u.0, c) (geometry.links as')
beside_links [] u h = absurd h
beside_links (a ∷ []) u h = absurd h
beside_links (a ∷ b ∷ []) u h = absurd h
beside_links (a ∷ b ∷ c ∷ ps) u (inl e) =
    (a, c, sym (ap (λ (v : Position × Segment). v.1) e), inl (ap (λ (v : Position × Segment). (a, v.0)) e), inr (inl (ap (λ (v : Position × Segment). (v.0, c)) e)))
beside_links (a ∷ b ∷ c ∷ ps) u (inr h) =
    let k = beside_links (b ∷ c ∷ ps) u h in
    (k.0, k.1, k.2, inr k.3, inr k.4)

pub beside_edges : (x y : Position) (zs : List Position) (u : Position × Segment)
    → In u (spots (x ∷ y ∷ zs))
    → (a : Position) × (c : Position) × (u.1 ≡ segment a c) × In (a, u.0) (geometry.edges (x ∷ y ∷ zs)) × In (u.0, c) (geometry.edges (x ∷ y ∷ zs))
beside_edges x y zs u h =
    let k = beside_links (x ∷ y ∷ zs ++ x ∷ y ∷ []) u h in
    (k.0, k.1, k.2, back (k.0, u.0) k.3, back (u.0, k.1) k.4)
  where
    all : geometry.links (x ∷ y ∷ zs ++ x ∷ y ∷ []) ≡ geometry.edges (x ∷ y ∷ zs) ++ (x, y) ∷ []
    all = links-append (x ∷ y ∷ zs) x (y ∷ [])

    back : (e : geometry.Edge) → In e (geometry.links (x ∷ y ∷ zs ++ x ∷ y ∷ []))
        → In e (geometry.edges (x ∷ y ∷ zs))
    back e i = elim (in-append e (geometry.edges (x ∷ y ∷ zs)) ((x, y) ∷ []) (subst (In e) all i)) [
      | inl j ↦ j
      | inr j ↦ elim j [ inl m ↦ inl m | inr m ↦ absurd m ]
    ]

-- ---- along keys

-- the edge between the positions of two keys
abbrev pub laid : (ℕ → Position) → Edge → geometry.Edge
laid at e = (at e.0, at e.1)

links_laid : (at : ℕ → Position) (ks : List ℕ)
    → geometry.links (map at ks) ≡ map (laid at) (links ks)
links_laid at [] = refl
links_laid at (j ∷ []) = refl
links_laid at (j ∷ k ∷ ks) = ap (λ z. (at j, at k) ∷ z) (links_laid at (k ∷ ks))

edges_laid : (at : ℕ → Position) (k : ℕ) (ks : List ℕ)
    → geometry.edges (map at (k ∷ ks)) ≡ map (laid at) (edges (k ∷ ks))
edges_laid at k ks =
    ap (λ z. geometry.links (at k ∷ z)) (sym (map-append at ks (k ∷ []))) ∙ links_laid at (k ∷ ks ++ k ∷ [])

begins_links : (j : ℕ) (ks : List ℕ) (l : ℕ) → begins (links (j ∷ ks ++ l ∷ [])) ≡ j ∷ ks
begins_links j [] l = refl
begins_links j (k ∷ ks) l = ap (λ z. j ∷ z) (begins_links k ks l)

pub begins_edges : (ks : List ℕ) → begins (edges ks) ≡ ks
begins_edges [] = refl
begins_edges (k ∷ ks) = begins_links k ks k

-- a ring can go along these keys
abbrev pub goes_round : (places : Placement) (keys : List ℕ) → IsRound places keys → GoesRound (edges keys)
goes_round places keys r = record { keys = keys; along = refl; long = r.long; different = r.different }

-- the keys of a ring, in order
pub begins_round : (es : List Edge) (g : GoesRound es) → begins es ≡ g.keys
begins_round es g = ap begins g.along ∙ begins_edges g.keys

-- the edges of the positions are those of the keys
pub edges_round : (at : ℕ → Position) (es : List Edge) → GoesRound es
    → geometry.edges (map at (begins es)) ≡ map (laid at) es
edges_round at es g =
    ap (λ z. geometry.edges (map at z)) (begins_round es g) ∙ over g.keys g.long ∙ ap (map (laid at)) (sym g.along)
  where
    over : (ks : List ℕ) → 3 ≤ length ks → geometry.edges (map at ks) ≡ map (laid at) (edges ks)
    over [] l = absurd (omega arith)
    over (k ∷ ks) l = edges_laid at k ks

-- ---- edges of keys

links_ends : (ks : List ℕ) (e : Edge) → In e (links ks) → In e.0 ks × In e.1 ks
links_ends [] e h = absurd h
links_ends (j ∷ []) e h = absurd h
links_ends (j ∷ k ∷ ks) e (inl i) = (inl (ap (λ (f : Edge). f.0) i), inr (inl (ap (λ (f : Edge). f.1) i)))
links_ends (j ∷ k ∷ ks) e (inr h) = let m = links_ends (k ∷ ks) e h in (inr m.0, inr m.1)

-- both ends of an edge are keys of the ring
pub edge_ends : (es : List Edge) → GoesRound es → (e : Edge) → In e es
    → In e.0 (begins es) × In e.1 (begins es)
edge_ends es g e h =
    let k = over g.keys (subst (In e) g.along h) in
    (subst (In e.0) (sym (begins_round es g)) k.0, subst (In e.1) (sym (begins_round es g)) k.1)
  where
    over : (ks : List ℕ) → In e (edges ks) → In e.0 ks × In e.1 ks
    over [] i = absurd i
    over (k ∷ ks) i = let m = links_ends (k ∷ ks ++ k ∷ []) e i in (back e.0 m.0, back e.1 m.1)
      where
        back : (j : ℕ) → In j (k ∷ ks ++ k ∷ []) → In j (k ∷ ks)
        back j i = elim (in-append j (k ∷ ks) (k ∷ []) i) [
          | inl m ↦ m
          | inr m ↦ elim m [ inl n ↦ inl n | inr n ↦ absurd n ]
        ]

-- no key of a list is this one
abbrev pub has_key : ℕ → List ℕ → Bool
has_key k ks = list_any (λ m. m == k) ks

differ : (j k : ℕ) → (j == k) ≡ false → j ≢ k
differ j k h e = false≢true (sym h ∙ (Decides-eqb j k).1 e)

links_apart : (l j : ℕ) (ks : List ℕ) → has_key l (j ∷ ks) ≡ false → are_distinct (j ∷ ks) ≡ true
    → (e : Edge) → In e (links (j ∷ ks ++ l ∷ [])) → e.0 ≢ e.1
links_apart l j [] h d e (inl i) f =
    differ j l (or_parts (j == l) false h).0 (ap (λ (u : Edge). u.0) i ∙ f ∙ sym (ap (λ (u : Edge). u.1) i))
links_apart l j [] h d e (inr i) f = absurd i
links_apart l j (k ∷ ks) h d e (inl i) f =
    let d' = and_parts (not (has_key j (k ∷ ks))) (are_distinct (k ∷ ks)) d in
    differ k j (or_parts (k == j) (has_key j ks) (not-true _ d'.0)).0 (ap (λ (u : Edge). u.1) i ∙ sym f ∙ sym (ap (λ (u : Edge). u.0) i))
links_apart l j (k ∷ ks) h d e (inr i) f =
    let d' = and_parts (not (has_key j (k ∷ ks))) (are_distinct (k ∷ ks)) d in
    links_apart l k ks (or_parts (j == l) (has_key l (k ∷ ks)) h).1 d'.1 e i f

-- the ends of an edge are two keys
pub edge_apart : (es : List Edge) → GoesRound es → (e : Edge) → In e es → e.0 ≢ e.1
edge_apart es g e h = over g.keys g.long g.different (subst (In e) g.along h)
  where
    over : (ks : List ℕ) → 3 ≤ length ks → are_distinct ks ≡ true → In e (edges ks) → e.0 ≢ e.1
    over [] l d i f = absurd (omega arith)
    over (k ∷ []) l d i f = absurd (omega arith)
    over (j ∷ k ∷ ks) l d (inl i) f =
        let d' = and_parts (not (has_key j (k ∷ ks))) (are_distinct (k ∷ ks)) d in
        differ k j (or_parts (k == j) (has_key j ks) (not-true _ d'.0)).0 (ap (λ (u : Edge). u.1) i ∙ sym f ∙ sym (ap (λ (u : Edge). u.0) i))
    over (j ∷ k ∷ ks) l d (inr i) f =
        let d' = and_parts (not (has_key j (k ∷ ks))) (are_distinct (k ∷ ks)) d in
        links_apart j k ks (not-true _ d'.0) d'.1 e i f

-- ---- segments of keys

pub ends_is_seg : (a b : ℕ) (e : Edge) → ((e.0 ≡ a) × (e.1 ≡ b)) ⊎ ((e.0 ≡ b) × (e.1 ≡ a))
    → is_seg a b e ≡ true
ends_is_seg a b e (inl h) = ap₂ (λ y z. (y && z) || (e.0 == b && e.1 == a)) ((Decides-eqb e.0 a).1 h.0) ((Decides-eqb e.1 b).1 h.1)
ends_is_seg a b e (inr h) = or_second (e.0 == a && e.1 == b) _ (ap₂ (λ y z. y && z) ((Decides-eqb e.0 b).1 h.0) ((Decides-eqb e.1 a).1 h.1))
  where
    or_second : (x y : Bool) → y ≡ true → (x || y) ≡ true
    or_second true y h = refl
    or_second false y h = h

-- a segment that stands among the edges is that of an edge
pub times_edge : (a b : ℕ) (es : List Edge) → 1 ≤ times a b es
    → (e : Edge) × In e es × (((e.0 ≡ a) × (e.1 ≡ b)) ⊎ ((e.0 ≡ b) × (e.1 ≡ a)))
times_edge a b [] h = absurd (omega (arith, h))
times_edge a b (e ∷ es) h = by (is_seg a b e) refl h (times_edge a b es)
  where
    by : (t : Bool) → is_seg a b e ≡ t → 1 ≤ one t + times a b es
        → (1 ≤ times a b es → (f : Edge) × In f es × (((f.0 ≡ a) × (f.1 ≡ b)) ⊎ ((f.0 ≡ b) × (f.1 ≡ a))))
        → (f : Edge) × In f (e ∷ es) × (((f.0 ≡ a) × (f.1 ≡ b)) ⊎ ((f.0 ≡ b) × (f.1 ≡ a)))
    by true i l k = (e, inl refl, ends_of a b e i)
    by false i l k = let m = k (omega (arith, l)) in (m.0, inr m.1, m.2)

pub edge_times : (a b : ℕ) (es : List Edge) (e : Edge) → In e es
    → ((e.0 ≡ a) × (e.1 ≡ b)) ⊎ ((e.0 ≡ b) × (e.1 ≡ a)) → 1 ≤ times a b es
edge_times a b [] e h k = absurd h
edge_times a b (f ∷ es) e (inl i) k =
    omega (arith, ap one (ap (is_seg a b) i ∙ ends_is_seg a b e k))
edge_times a b (f ∷ es) e (inr h) k = omega (arith, edge_times a b es e h k)
