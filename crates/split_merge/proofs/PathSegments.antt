-- The segments along a path, and those of the map.
use Rattle.kit_words.proofs.Common.{◌≡◌, ℕ, ◌+◌, ◌<◌, Bool, false, sym, ap, ◌∙◌, List, [], ◌∷◌, ◌||◌, length, drop}
use Rattle.kit_words.proofs.Common.{get_or, nat_lt, list_any, at_drop_more, kept_any}
use Rattle.grid_geometry.specs.Common.{Position, Segment, Edge, links}
use Rattle.ring_machine.specs.Common.{Document, rings, is_segment}
use Rattle.arc_store.specs.Common.{users}
use Rattle.arc_store.proofs.Common.{has_segment, is_segment_by}

-- ---- a segment

-- a segment is one of the document where some ring has it
pub segment_used : (d : Document) (s : Segment) → nat_lt 0 (length (users d s)) ≡ is_segment d s
segment_used d s = kept_any (has_segment s) (rings d) ∙ sym (is_segment_by d s)

-- ---- along a path

module _ (from to : Position) (rest : List Position) (i : ℕ) (l : i < length rest) (e : to ≡ get_or rest i to) (test : Edge → Bool) where
  -- what is left begins with the next position
  along : list_any test (links (from ∷ drop i rest))
      ≡ (test (from, to) || list_any test (links (to ∷ drop (i + 1) rest)))
  along =
      at_drop_more (λ ps. list_any test (links (from ∷ ps))) rest i to l
      ∙ ap (λ t. list_any test (links (from ∷ t ∷ drop (i + 1) rest))) (sym e)

  pub none_here : test (from, to) ≡ false
      → list_any test (links (to ∷ drop (i + 1) rest)) ≡ list_any test (links (from ∷ drop i rest))
  none_here h = sym (along ∙ ap (λ b. b || list_any test (links (to ∷ drop (i + 1) rest))) h)
