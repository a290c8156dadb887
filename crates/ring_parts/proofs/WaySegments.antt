-- The segments of a way that has no position twice, position by position.
use Rattle.kit_words.proofs.Common.{◌≡◌, ◌<◌, ◌+◌, ℕ, true, sym, ap, ◌∙◌, subst, List, [], ◌∷◌, ◌++◌, map, length, drop}
use Rattle.kit_words.proofs.Common.{get_or, append_assoc, inl, not, false≢true, and_parts, not-true, next_drop}
use Rattle.grid_geometry.specs.Common.{Position, Segment, links}
use Rattle.ring_machine.specs.Common.{has, is_distinct, segment_of}
use Rattle.ring_machine.proofs.Common.{In, in-has}

-- the segments of a way, each from a position to the next one
abbrev pub segments_along : List Position → List Segment
segments_along ps = map segment_of (links ps)

-- one segment more
pub way_more : (done new all : List Segment) (from to : Position) (rest : List Position) (i : ℕ)
    → i < length rest → to ≡ get_or rest i to → done ++ segments_along (from ∷ drop i rest) ≡ all
    → new ≡ done ++ segment_of (from, to) ∷ [] → new ++ segments_along (to ∷ drop (i + 1) rest) ≡ all
way_more done new all from to rest i l e h k =
    ap (λ z. z ++ segments_along (to ∷ drop (i + 1) rest)) k
    ∙ append_assoc done (segment_of (from, to) ∷ []) (segments_along (to ∷ drop (i + 1) rest))
    ∙ ap (λ z. done ++ segments_along (from ∷ z)) (sym (next_drop rest i to l e)) ∙ h

-- what is left has no position twice
pub way_on : (from to : Position) (rest : List Position) (i : ℕ) → i < length rest
    → to ≡ get_or rest i to → is_distinct (from ∷ drop i rest) ≡ true
    → is_distinct (to ∷ drop (i + 1) rest) ≡ true
way_on from to rest i l e d =
    ap is_distinct (sym (next_drop rest i to l e))
    ∙ (and_parts (not (has (drop i rest) from)) (is_distinct (drop i rest)) d).1

-- the next position is another
pub way_apart : (from to : Position) (rest : List Position) (i : ℕ) → i < length rest
    → to ≡ get_or rest i to → is_distinct (from ∷ drop i rest) ≡ true → from ≡ to → ⊥
way_apart from to rest i l e d same =
    let none = not-true _ (and_parts (not (has (drop i rest) from)) (is_distinct (drop i rest)) d).0 in
    false≢true (sym none ∙ in-has from (drop i rest) (subst (In from) (sym (next_drop rest i to l e)) (inl (sym same))))
