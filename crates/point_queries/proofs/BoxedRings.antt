-- The positions of a ring, one after another, in a box that is widened by each.
use Rattle.kit_words.proofs.Common.{◌≡◌, ◌<◌, ◌+◌, ℕ, true, sym, ap, ◌∙◌, List, length, get_or, below_more}
use Rattle.kit_words.proofs.Common.{get_or_default}
use Rattle.grid_geometry.specs.Common.{Position, Segment}
use Rattle.point_queries.specs.Common.{is_within_diagonal, IsWider}

-- a box has the positions below an index
abbrev pub HasBelow : Segment → List Position → ℕ → Type 0
HasBelow d ring i = (k : ℕ) → k < i → (z : Position) → is_within_diagonal d (get_or ring k z) ≡ true

pub one_more : (d e : Segment) (ring : List Position) (i : ℕ) (p : Position) → i < length ring
    → p ≡ get_or ring i p → IsWider d p e → HasBelow d ring i → HasBelow e ring (i + 1)
one_more d e ring i p lt here wider below =
    below_more (λ k. (z : Position) → is_within_diagonal e (get_or ring k z) ≡ true) i
    (λ k h z. wider.has_all (get_or ring k z) (below k h z))
    (λ z. ap (is_within_diagonal e) (get_or_default ring i z p lt ∙ sym here) ∙ wider.has_it)
