-- Rings of keys: their edges are a closed way, and an edit of the edges is one of the positions.
use Rattle.kit_words.proofs.Common.{◌≡◌, ◌≤◌, ℕ, Bool, true, false, refl, sym, ap, ap₂, ◌∙◌, subst, cond, List, [], ◌∷◌}
use Rattle.kit_words.proofs.Common.{◌++◌, map, length, inl, inr, arith, flat_map, map-append, length-map}
use Rattle.grid_geometry.specs.Common.{Position, segment, segment_eq}
use Rattle.grid_geometry.specs.Ring.{Edge as Side}
use Rattle.grid_geometry.proofs.Common.{segment-comm}
use Rattle.ring_machine.specs.Common.{is_ring, canonical}
use Rattle.ring_machine.proofs.Common.{segment_ordered, same_ends, segment_eq-true, In, Pivot, by_edges}
use Rattle.ring_machine.proofs.Common.{canonical_by_edges, ring_long, ring_distinct, same_answer, canonical_length}
use Rattle.arc_tables.specs.Common.{Edge, links, is_seg, begins, edges, over, drawn, onto}
use Rattle.ring_store.specs.Common.{GoesRound}
use Rattle.arc_store.proofs.RingEdits.{distinct_turned}
use Rattle.ring_store.proofs.Common.{laid, edges_round, ends_is_seg, keys_distinct}
use Rattle.arc_tables.proofs.Common.{onto_p, onto_b, ends_of}

-- ---- ways

-- the edges lead from k to l, each beginning where the one before ends
abbrev pub Way : ℕ → List Edge → ℕ → Type 0
Way k [] l = k ≡ l
Way k (e ∷ es) l = (e.0 ≡ k) × Way e.1 es l

links_of_way : (k : ℕ) (es : List Edge) (l : ℕ) → Way k es l → links (begins es ++ l ∷ []) ≡ es
links_of_way k [] l h = refl
links_of_way k (e ∷ []) l h = ap (λ z. (e.0, z) ∷ []) (sym h.1)
links_of_way k (e ∷ f ∷ es) l h = ap₂ (λ y z. (e.0, y) ∷ z) h.1.0 (links_of_way e.1 (f ∷ es) l h.1)

-- a closed way is the edges of the keys at which they begin
pub closed_way : (k : ℕ) (es : List Edge) → Way k es k → edges (begins es) ≡ es
closed_way k [] h = refl
closed_way k (e ∷ es) h = ap (λ z. links (begins (e ∷ es) ++ z ∷ [])) h.0 ∙ links_of_way k (e ∷ es) k h

way_of_links : (k : ℕ) (ks : List ℕ) (l : ℕ) → Way k (links (k ∷ ks ++ l ∷ [])) l
way_of_links k [] l = (refl, refl)
way_of_links k (m ∷ ks) l = (refl, way_of_links m ks l)

pub way_of_edges : (k : ℕ) (ks : List ℕ) → Way k (edges (k ∷ ks)) k
way_of_edges k ks = way_of_links k ks k

way_append : (k : ℕ) (es : List Edge) (l : ℕ) (fs : List Edge) (m : ℕ) → Way k es l → Way l fs m
    → Way k (es ++ fs) m
way_append k [] l fs m h i = subst (λ z. Way z fs m) (sym h) i
way_append k (e ∷ es) l fs m h i = (h.0, way_append e.1 es l fs m h.1 i)

pub edited_way : (g : Edge → List Edge) (to : ℕ → ℕ) → ((e : Edge) → Way (to e.0) (g e) (to e.1))
    → (k : ℕ) (es : List Edge) (l : ℕ) → Way k es l → Way (to k) (flat_map g es) (to l)
edited_way g to h k [] l w = ap to w
edited_way g to h k (e ∷ es) l w =
    way_append (to k) (g e) (to e.1) (flat_map g es) (to l)
    (subst (λ z. Way (to z) (g e) (to e.1)) w.0 (h e)) (edited_way g to h e.1 es l w.1)

pub over_keeps : (a b q : ℕ) (e : Edge) → Way e.0 (over a b q e) e.1
over_keeps a b q e = grind arith

-- where an edge goes, both of its keys come to be one
pub meets_onto : (m k : ℕ) (e : Edge) → is_seg m k e ≡ true → onto m k e.0 ≡ onto m k e.1
meets_onto m k e h = elim (ends_of m k e h) [
  | inl i ↦ onto_p m k e.0 i.0 ∙ sym (ap (onto m k) i.1 ∙ onto_b m k)
  | inr i ↦ ap (onto m k) i.0 ∙ onto_b m k ∙ sym (onto_p m k e.1 i.1)
]

pub drawn_keeps : (p b : ℕ) (e : Edge) → Way (onto p b e.0) (drawn p b e) (onto p b e.1)
drawn_keeps p b e = by (is_seg p b e) refl
  where
    by : (t : Bool) → is_seg p b e ≡ t
        → Way (onto p b e.0) (cond t [] ((onto p b e.0, onto p b e.1) ∷ [])) (onto p b e.1)
    by true h = meets_onto p b e h
    by false h = (refl, refl)

-- the edges of a ring are a closed way
pub round_way : (es : List Edge) → GoesRound es → (k : ℕ) × Way k es k
round_way es g = by g.keys g.long g.along
  where
    by : (ks : List ℕ) → 3 ≤ length ks → es ≡ edges ks → (k : ℕ) × Way k es k
    by [] l e = absurd (omega arith)
    by (k ∷ ks) l e = (k, subst (λ z. Way k z k) (sym e) (way_of_edges k ks))

-- ---- positions

-- where an edit of an edge's positions is that of its keys, so it is for all edges
pub edited_positions : (at at' : ℕ → Position) (f : Side → List Position) (g : Edge → List Edge)
    → (es : List Edge) → ((e : Edge) → In e es → f (laid at e) ≡ map at' (begins (g e)))
    → flat_map f (map (laid at) es) ≡ map at' (begins (flat_map g es))
edited_positions at at' f g [] h = refl
edited_positions at at' f g (e ∷ es) h =
    ap₂ (λ y z. y ++ z) (h e (inl refl)) (edited_positions at at' f g es (λ d i. h d (inr i)))
    ∙ sym (map-append at' (begins (g e)) (begins (flat_map g es)))
    ∙ sym (ap (map at') (map-append (λ (d : Edge). d.0) (g e) (flat_map g es)))

-- ---- segments

-- an edge of keys is of a segment as that of the positions is
pub seg_same : (at : ℕ → Position) (j k : ℕ) (e : Edge) → (at e.0 ≡ at j → e.0 ≡ j)
    → (at e.0 ≡ at k → e.0 ≡ k) → (at e.1 ≡ at j → e.1 ≡ j) → (at e.1 ≡ at k → e.1 ≡ k)
    → segment_eq (segment (at e.0) (at e.1)) (segment (at j) (at k)) ≡ is_seg j k e
seg_same at j k e f g f' g' = same_answer _ (is_seg j k e) (λ h. elim (same_ends (at j, at k) (at e.0, at e.1) (sym (segment_eq-true _ _ h))) [
  | inl s ↦ ends_is_seg j k e (inl (f s.0, g' s.1))
  | inr s ↦ ends_is_seg j k e (inr (g s.0, f' s.1))
]) (λ h. elim (ends_of j k e h) [
  | inl s ↦ ap₂ (λ y z. segment_eq (segment (at y) (at z)) (segment (at j) (at k))) s.0 s.1 ∙ segment_ordered.eq-refl (segment (at j) (at k))
  | inr s ↦ ap₂ (λ y z. segment_eq (segment (at y) (at z)) (segment (at j) (at k))) s.0 s.1 ∙ ap (λ z. segment_eq z (segment (at j) (at k))) (segment-comm (at k) (at j)) ∙ segment_ordered.eq-refl (segment (at j) (at k))
])

-- a closed way over positions that turn into a ring goes round
pub round_of_way : (at : ℕ → Position) (k : ℕ) (es : List Edge) → Way k es k
    → is_ring (canonical (map at (begins es))) ≡ true → GoesRound es
round_of_way at k es w h = record {
  keys = begins es;
  along = sym (closed_way k es w);
  long = omega (arith, ring_long (canonical (map at (begins es))) h, canonical_length (map at (begins es)), length-map (begins es) at);
  different = keys_distinct at (begins es) (distinct_turned (map at (begins es)) (ring_distinct (canonical (map at (begins es))) h));
}

-- the ring of the edited edges is the edited ring
pub edited_along : (at at' : ℕ → Position) (f : Side → List Position) (g : Edge → List Edge)
    → (es : List Edge) → GoesRound es
    → ((e : Edge) → In e es → f (laid at e) ≡ map at' (begins (g e)))
    → Pivot (by_edges f (canonical (map at (begins es))))
    → canonical (map at' (begins (flat_map g es))) ≡ canonical (by_edges f (canonical (map at (begins es))))
edited_along at at' f g es r h v =
    ap canonical (sym (ap (flat_map f) (edges_round at es r) ∙ edited_positions at at' f g es h))
    ∙ canonical_by_edges f (map at (begins es)) v
