-- A ring that a path cuts: begun at the path's first position it is p, xs, q, ys.
use Rattle.kit_words.proofs.Common.{◌≡◌, true, false, refl, sym, ap, ◌∙◌, List, [], ◌∷◌, ◌++◌, length, reverse, ◌&&◌}
use Rattle.kit_words.proofs.Common.{inl, inr, not, nat_le, false≢true, append-nil, list_any-append, and_parts, or_parts}
use Rattle.kit_words.proofs.Common.{not-true}
use Rattle.grid_geometry.specs.Common.{Position, position_eq, Edge, edges}
use Rattle.ring_machine.specs.Common.{canonical, has, is_distinct, is_ring, begins_least, Path, first_part, second_part}
use Rattle.ring_machine.proofs.Order.{position_eq-refl}
use Rattle.ring_machine.proofs.Canonical.{canonical_at, canonical_swap, canonical_parts, pivot_of}
use Rattle.ring_machine.proofs.Edges.{edges_is, edges_to, edges_to-append}
use Rattle.ring_machine.proofs.First.{In}
use Rattle.ring_machine.proofs.Members.{in_swap}
use Rattle.ring_machine.proofs.Neighbours.{has-in}
use Rattle.ring_machine.proofs.Splitting as splitting
use Rattle.ring_machine.proofs.Spots.{Rotated}
use Rattle.ring_machine.proofs.StaysProper.{ring_distinct}
use Rattle.ring_machine.proofs.StaysRing.{distinct_swap}

-- ---- turned rings

-- a turned ring has the same edges
pub turned_edges : (ps qs : List Position)
    → (es : List Edge) × (fs : List Edge) × (edges (ps ++ qs) ≡ es ++ fs) × (edges (qs ++ ps) ≡ fs ++ es)
turned_edges [] qs = ([], edges qs, refl, ap edges (append-nil qs) ∙ sym (append-nil (edges qs)))
turned_edges (p ∷ ps) [] = (edges (p ∷ ps), [], ap edges (append-nil (p ∷ ps)) ∙ sym (append-nil (edges (p ∷ ps))), refl)
turned_edges (p ∷ ps) (q ∷ qs) = (edges_to q (p ∷ ps), edges_to p (q ∷ qs), half p ps q qs, half q qs p ps)
  where
    half : (p : Position) (ps : List Position) (q : Position) (qs : List Position)
        → edges ((p ∷ ps) ++ q ∷ qs) ≡ edges_to q (p ∷ ps) ++ edges_to p (q ∷ qs)
    half p ps q qs = edges_is p (ps ++ q ∷ qs) ∙ edges_to-append p (p ∷ ps) (q ∷ qs)

pub rotated_edges : (ps qs : List Position) → Rotated ps qs → Rotated (edges ps) (edges qs)
rotated_edges ps qs r =
    let turned = turned_edges r.us r.vs in
    record { us = turned.0; vs = turned.1; from = ap edges r.from ∙ turned.2; to = ap edges r.to ∙ turned.3 }

pub canonical_turns : (ps : List Position) → Rotated ps (canonical ps)
canonical_turns ps =
    let parts = canonical_parts ps in
    record { us = parts.0; vs = parts.1; from = parts.2; to = parts.3 }

-- a ring begins at its least position already
pub ring_is_canonical : (ring : List Position) → is_ring ring ≡ true → canonical ring ≡ ring
ring_is_canonical [] h = absurd (false≢true h)
ring_is_canonical (p ∷ ps) h =
    let rest = and_parts (nat_le 3 (length (p ∷ ps))) (is_distinct (p ∷ ps) && begins_least (p ∷ ps)) h in
    canonical_at [] ps p refl (and_parts (is_distinct (p ∷ ps)) (begins_least (p ∷ ps)) rest.1).1 ∙ ap (λ z. p ∷ z) (append-nil ps)

-- ---- where a position stands

pub record Standing (p : Position) (ps : List Position) : Type 0 where
  pub us : List Position
  pub vs : List Position
  pub is : ps ≡ us ++ p ∷ vs

pub standing : (p : Position) (ps : List Position) → In p ps → Standing p ps
standing p [] h = absurd h
standing p (x ∷ ps) (inl e) = record { us = []; vs = ps; is = ap (λ z. z ∷ ps) e }
standing p (x ∷ ps) (inr h) =
    let s = standing p ps h in
    record { us = x ∷ s.us; vs = s.vs; is = ap (λ z. x ∷ z) s.is }

-- in distinct positions none of the others is q
pub once_there : (us : List Position) (q : Position) (vs : List Position)
    → is_distinct (us ++ q ∷ vs) ≡ true → (has us q ≡ false) × (has vs q ≡ false)
once_there us q vs d =
    let turned = and_parts (not (has (vs ++ us) q)) (is_distinct (vs ++ us)) (distinct_swap us (q ∷ vs) d) in
    let parts = or_parts (has vs q) (has us q) (sym (list_any-append (position_eq q) vs us) ∙ not-true _ turned.0) in
    (parts.1, parts.0)

-- ---- a ring cut at p and q

pub record CutRing (ring : List Position) (p q : Position) : Type 0 where
  pub xs : List Position
  pub ys : List Position
  pub turned : Rotated ring (p ∷ xs ++ q ∷ ys)
  pub is : ring ≡ canonical (p ∷ xs ++ q ∷ ys)
  pub distinct : is_distinct (p ∷ xs ++ q ∷ ys) ≡ true

pub cut_ring : (ring : List Position) (p q : Position) → is_ring ring ≡ true → has ring p ≡ true
    → has ring q ≡ true → position_eq p q ≡ false → CutRing ring p q
cut_ring ring p q r hp hq other = by (standing p ring (has-in p ring hp))
  where
    by : Standing p ring → CutRing ring p q
    by s =
        let begun : is_distinct (p ∷ s.vs ++ s.us) ≡ true = distinct_swap s.us (p ∷ s.vs) (ap is_distinct (sym s.is) ∙ ring_distinct ring r) in
        on (standing q (s.vs ++ s.us) (later (in_swap q s.us (p ∷ s.vs) (has-in q (s.us ++ p ∷ s.vs) (ap (λ z. has z q) (sym s.is) ∙ hq))))) begun
      where
        later : In q (p ∷ s.vs ++ s.us) → In q (s.vs ++ s.us)
        later (inl e) = absurd (false≢true (sym other ∙ ap (position_eq p) (sym e) ∙ position_eq-refl p))
        later (inr i) = i

        on : Standing q (s.vs ++ s.us) → is_distinct (p ∷ s.vs ++ s.us) ≡ true → CutRing ring p q
        on t begun =
            let to : p ∷ t.us ++ q ∷ t.vs ≡ p ∷ s.vs ++ s.us = ap (λ z. p ∷ z) (sym t.is) in
            record {
              xs = t.us;
              ys = t.vs;
              turned = record { us = s.us; vs = p ∷ s.vs; from = s.is; to = to };
              is = sym (ring_is_canonical ring r) ∙ ap canonical s.is ∙ sym (canonical_swap (p ∷ s.vs) s.us (pivot_of p (s.vs ++ s.us) begun)) ∙ ap canonical (sym to);
              distinct = ap is_distinct to ∙ begun;
            }

-- ---- its two parts

module _ (ring : List Position) (path : Path) (c : CutRing ring path.first path.last) where
  p_once : has (c.xs ++ path.last ∷ c.ys) path.first ≡ false
  p_once = not-true _ (and_parts (not (has (c.xs ++ path.last ∷ c.ys) path.first)) (is_distinct (c.xs ++ path.last ∷ c.ys)) c.distinct).0

  q_once : (has (path.first ∷ c.xs) path.last ≡ false) × (has c.ys path.last ≡ false)
  q_once = once_there (path.first ∷ c.xs) path.last c.ys c.distinct

  pub first_is : first_part ring path ≡ path.first ∷ c.xs ++ path.last ∷ reverse path.inner
  first_is = ap (λ z. first_part z path) c.is ∙ splitting.first_part_is path.first c.xs path.last c.ys p_once q_once.0 q_once.1 path.inner

  pub second_is : second_part ring path ≡ path.last ∷ c.ys ++ path.first ∷ path.inner
  second_is = ap (λ z. second_part z path) c.is ∙ splitting.second_part_is path.first c.xs path.last c.ys p_once q_once.0 q_once.1 path.inner
