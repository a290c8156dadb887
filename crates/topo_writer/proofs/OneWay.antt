-- A piece that has each segment once is not its own reverse.
use Rattle.kit_words.proofs.Common.{◌≡◌, ◌+◌, ◌≤◌, Bool, true, false, refl, sym, ap, ◌∙◌, List, [], ◌∷◌, ◌++◌, map}
use Rattle.kit_words.proofs.Common.{reverse, arith, false≢true, reverse-append}
use Rattle.grid_geometry.specs.Common.{Position, position_eq, Segment, segment_eq, Edge, links}
use Rattle.grid_geometry.proofs.Common.{segment-comm}
use Rattle.ring_machine.specs.Common.{segment_of}
use Rattle.ring_machine.proofs.Common.{position_eq-refl, is_of, links-reverse, flip, flipped, times, one, times-append}
use Rattle.ring_machine.proofs.Common.{with_last}
use Rattle.map_text.specs.Common.{are_equal}
use Rattle.map_text.proofs.Common.{are_equal-true}

snoc_last : {A : Type 0} (xs ys : List A) (a b : A) → xs ++ a ∷ [] ≡ ys ++ b ∷ [] → a ≡ b
snoc_last [] [] a b e = cc
snoc_last [] (y ∷ []) a b e = cc
snoc_last [] (y ∷ z ∷ ys) a b e = cc
snoc_last (x ∷ []) [] a b e = cc
snoc_last (x ∷ z ∷ xs) [] a b e = cc
snoc_last (x ∷ xs) (y ∷ ys) a b e = let t : xs ++ a ∷ [] ≡ ys ++ b ∷ [] = cc in snoc_last xs ys a b t

segment_eq-refl : (s : Segment) → segment_eq s s ≡ true
segment_eq-refl s = rw (position_eq-refl s.lo, position_eq-refl s.hi) refl

turned_links : (e : Edge) (es : List Edge) → flipped (e ∷ es) ≡ flipped es ++ flip e ∷ []
turned_links e es = reverse-append (flip e ∷ []) (map flip es)

twice : (e l : Edge) (es : List Edge) → e ∷ l ∷ es ≡ flipped (e ∷ l ∷ es) → times (segment_of e) (e ∷ l ∷ es) ≤ 1 → ⊥
twice e l es h t = by (with_last l es)
  where
    by : ((ys : List Edge) × (z : Edge) × (l ∷ es ≡ ys ++ z ∷ [])) → ⊥
    by w =
        let z : w.1 ≡ flip e = snoc_last (e ∷ w.0) (flipped (l ∷ es)) w.1 (flip e) (ap (λ y. e ∷ y) (sym w.2) ∙ h ∙ turned_links e (l ∷ es)) in
        let a : one (is_of (segment_of e) e) ≡ 1 = ap one (segment_eq-refl (segment_of e)) in
        let b : one (is_of (segment_of e) w.1) ≡ 1 = ap (λ f. one (is_of (segment_of e) f)) z ∙ ap (λ s. one (segment_eq s (segment_of e))) (segment-comm e.1 e.0) ∙ ap one (segment_eq-refl (segment_of e)) in
        let c : times (segment_of e) (l ∷ es) ≡ times (segment_of e) w.0 + times (segment_of e) (w.1 ∷ []) = ap (times (segment_of e)) w.2 ∙ times-append (segment_of e) w.0 (w.1 ∷ []) in
        omega (arith, a, b, c, t)

pub one_way : (p q : Position) (ps : List Position) → position_eq p q ≡ false → ((s : Segment) → times s (links (p ∷ q ∷ ps)) ≤ 1) → are_equal (p ∷ q ∷ ps) (reverse (p ∷ q ∷ ps)) ≡ false
one_way p q ps n h = by (are_equal (p ∷ q ∷ ps) (reverse (p ∷ q ∷ ps))) refl
  where
    no : (rs : List Position) → links (p ∷ q ∷ rs) ≡ flipped (links (p ∷ q ∷ rs)) → ((s : Segment) → times s (links (p ∷ q ∷ rs)) ≤ 1) → ⊥
    no [] e t = let same : p ≡ q = ap (λ (es : List Edge). first es) e in false≢true (sym n ∙ ap (position_eq p) (sym same) ∙ position_eq-refl p)
      where
        first : List Edge → Position
        first [] = p
        first (f ∷ fs) = f.0
    no (r ∷ rs) e t = twice (p, q) (q, r) (links (r ∷ rs)) e (t (segment_of (p, q)))

    by : (b : Bool) → are_equal (p ∷ q ∷ ps) (reverse (p ∷ q ∷ ps)) ≡ b → b ≡ false
    by false e = refl
    by true e = absurd (no ps (ap links (are_equal-true (p ∷ q ∷ ps) (reverse (p ∷ q ∷ ps)) e) ∙ links-reverse (p ∷ q ∷ ps)) h)
