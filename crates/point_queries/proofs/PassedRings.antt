-- A ring holds a position where it has an odd number of the segments that count.
use Rattle.kit_words.proofs.Common.{◌≡◌, Bool, true, false, refl, sym, ap, ap₂, ◌∙◌, subst, List, [], ◌∷◌, ◌||◌, arith}
use Rattle.kit_words.proofs.Common.{map, not, list_any}
use Rattle.grid_geometry.specs.Common.{Position, Edge, edges, is_odd_count, is_inside, xor, Segment, segment_eq}
use Rattle.ring_machine.specs.Common.{segment_of, segments, is_ring}
use Rattle.ring_machine.proofs.Common.{is_of, In, any_in, in_any, same_answer, segment_ordered, segment_eq-true}
use Rattle.ring_machine.proofs.Common.{segment_eq-sym, ring_once, ring_long, ring_distinct, AtMostOne}
use Rattle.point_queries.specs.Common.{odd, EachOnce, is_passed}
use Rattle.point_queries.proofs.Odds.{odd-alike, odd-exchange, odd_apart}
use Rattle.point_queries.proofs.Passing.{passed_edge}

-- ---- a ring has each of its segments once

any_of : (s : Segment) (es : List Edge) → list_any (segment_eq s) (map segment_of es) ≡ list_any (is_of s) es
any_of s [] = refl
any_of s (e ∷ es) = ap₂ (λ y z. y || z) (segment_eq-sym s (segment_of e)) (any_of s es)

at_most_one : (s : Segment) (q : Position) (es : List Edge) → AtMostOne (is_of s) q es
    → odd (segment_eq s) (map segment_of es) ≡ list_any (segment_eq s) (map segment_of es)
at_most_one s q [] h = refl
at_most_one s q (e ∷ es) h = by (segment_eq s (segment_of e)) refl (at_most_one s q es h.1)
  where
    by : (b : Bool) → segment_eq s (segment_of e) ≡ b
        → odd (segment_eq s) (map segment_of es) ≡ list_any (segment_eq s) (map segment_of es)
        → xor b (odd (segment_eq s) (map segment_of es)) ≡ (b || list_any (segment_eq s) (map segment_of es))
    by true t k = ap not (k ∙ any_of s es ∙ h.0 (segment_eq-sym (segment_of e) s ∙ t))
    by false t k = k

once_in : (s : Segment) (ring : List Position) → is_ring ring ≡ true
    → odd (segment_eq s) (segments ring) ≡ list_any (segment_eq s) (segments ring)
once_in s [] h = refl
once_in s (x ∷ []) h = absurd (omega (arith, ring_long (x ∷ []) h))
once_in s (x ∷ y ∷ []) h = absurd (omega (arith, ring_long (x ∷ y ∷ []) h))
once_in s (x ∷ y ∷ z ∷ ps) h =
    at_most_one s x (edges (x ∷ y ∷ z ∷ ps)) (ring_once s x y z ps (ring_distinct (x ∷ y ∷ z ∷ ps) h))

-- ---- its segments that count

odd_edges : (p : Position) (es : List Edge) → odd (is_passed p) (map segment_of es) ≡ is_odd_count p es
odd_edges p [] = refl
odd_edges p (e ∷ es) = ap₂ xor (passed_edge p e.0 e.1) (odd_edges p es)

-- segments that count, each once
module _ (p : Position) (ss : List Segment) (passed : (s : Segment) → In s ss → is_passed p s ≡ true) (apart : EachOnce segment_eq ss) where
  one_of : (t : Segment) → (is_passed p t ≡ true → In t ss) → odd (λ s. segment_eq s t) ss ≡ is_passed p t
  one_of t h =
      odd-alike (λ s. segment_eq s t) (segment_eq t) ss (λ s i. segment_eq-sym s t)
      ∙ odd_apart segment_eq segment_eq-true t ss apart
      ∙ same_answer (list_any (segment_eq t) ss) (is_passed p t)
      (λ k. let s = any_in (segment_eq t) ss k in subst (λ z. is_passed p z ≡ true) (sym (segment_eq-true t s.0 s.2)) (passed s.0 s.1))
      (λ k. in_any (segment_eq t) t ss (h k) (segment_ordered.eq-refl t))

  -- all of the ring's among them
  pub odd_ring : (ring : List Position) → is_ring ring ≡ true
      → ((t : Segment) → In t (segments ring) → is_passed p t ≡ true → In t ss)
      → odd (λ s. list_any (segment_eq s) (segments ring)) ss ≡ is_inside p ring
  odd_ring ring h all =
      odd-alike (λ s. list_any (segment_eq s) (segments ring)) (λ s. odd (segment_eq s) (segments ring)) ss (λ s i. sym (once_in s ring h))
      ∙ odd-exchange segment_eq ss (segments ring)
      ∙ odd-alike (λ t. odd (λ s. segment_eq s t) ss) (is_passed p) (segments ring) (λ t i. one_of t (all t i))
      ∙ odd_edges p (edges ring)
