-- Positions of which none stands twice, in two parts.
use Rattle.kit_words.proofs.Common.{◌≡◌, Bool, true, false, refl, sym, ap₂, ◌∙◌, List, [], ◌∷◌, ◌++◌, ◌||◌, ◌&&◌, inl}
use Rattle.kit_words.proofs.Common.{inr, not, false≢true, list_any-append, and_parts, not-true}
use Rattle.grid_geometry.specs.Common.{Position, position_eq}
use Rattle.ring_machine.specs.Common.{has, is_distinct}
use Rattle.ring_machine.proofs.First.{In, in_right}
use Rattle.ring_machine.proofs.Neighbours.{has-in, in-has}

pub lacks : (ps : List Position) (p : Position) → (In p ps → ⊥) → has ps p ≡ false
lacks ps p h = by (has ps p) refl
  where
    by : (b : Bool) → has ps p ≡ b → has ps p ≡ false
    by true e = absurd (h (has-in p ps e))
    by false e = e

pub lacking : (ps : List Position) (p : Position) → has ps p ≡ false → In p ps → ⊥
lacking ps p h i = false≢true (sym h ∙ in-has p ps i)

-- the first is not among the others
pub first_once : (p : Position) (ps : List Position) → is_distinct (p ∷ ps) ≡ true → In p ps → ⊥
first_once p ps d = lacking ps p (not-true (has ps p) (and_parts (not (has ps p)) (is_distinct ps) d).0)

pub distinct_rest : (p : Position) (ps : List Position) → is_distinct (p ∷ ps) ≡ true
    → is_distinct ps ≡ true
distinct_rest p ps d = (and_parts (not (has ps p)) (is_distinct ps) d).1

pub distinct_right : (ps qs : List Position) → is_distinct (ps ++ qs) ≡ true → is_distinct qs ≡ true
distinct_right [] qs d = d
distinct_right (p ∷ ps) qs d = distinct_right ps qs (distinct_rest p (ps ++ qs) d)

-- no position is of both parts
pub distinct_apart : (ps qs : List Position) → is_distinct (ps ++ qs) ≡ true → (p : Position)
    → In p ps → In p qs → ⊥
distinct_apart [] qs d p h k = h
distinct_apart (x ∷ ps) qs d p (inl e) k = first_once x (ps ++ qs) d (in_right x ps qs (on qs k))
  where
    on : (rs : List Position) → In p rs → In x rs
    on [] j = j
    on (r ∷ rs) (inl j) = inl (j ∙ sym e)
    on (r ∷ rs) (inr j) = inr (on rs j)
distinct_apart (x ∷ ps) qs d p (inr h) k = distinct_apart ps qs (distinct_rest x (ps ++ qs) d) p h k

pub distinct_both : (ps qs : List Position) → is_distinct ps ≡ true → is_distinct qs ≡ true
    → ((p : Position) → In p ps → In p qs → ⊥) → is_distinct (ps ++ qs) ≡ true
distinct_both [] qs d e h = e
distinct_both (p ∷ ps) qs d e h =
    let k = and_parts (not (has ps p)) (is_distinct ps) d in
    let out = list_any-append (position_eq p) ps qs ∙ ap₂ (λ y z. y || z) (not-true (has ps p) k.0) (lacks qs p (h p (inl refl))) in
    ap₂ (λ y z. not y && z) out (distinct_both ps qs k.1 e (λ q i j. h q (inr i) j))
