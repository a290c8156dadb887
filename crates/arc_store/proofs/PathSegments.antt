-- The segments of a path that has no position twice: each of them once.
use Rattle.kit_words.proofs.Common.{◌≡◌, ◌≤◌, ◌+◌, Bool, true, false, refl, sym, ap, ◌∙◌, subst, cond, List, [], ◌∷◌}
use Rattle.kit_words.proofs.Common.{inl, inr, arith, not, false≢true, and_parts, false_from_ne_true, not-true}
use Rattle.grid_geometry.specs.Common.{Position, Segment, links}
use Rattle.ring_machine.specs.Common.{Path, Document, is_segment, positions_of, is_path_segment, has, is_distinct}
use Rattle.ring_machine.specs.Common.{segment_of}
use Rattle.ring_machine.proofs.Common.{In, in_mapped, any_in, in-has, none_in, same_ends, path_segments}
use Rattle.ring_machine.proofs.Neighbours.{links_in}
use Rattle.segment_index.specs.Candidates.{SegmentSet, AreSingle, segment_is, has as has_segment, times_in}
use Rattle.segment_index.proofs.Common.{same_segment, times-none}
use Rattle.ring_parts.proofs.Common.{segments_along}
use Rattle.feature_exchange.specs.Common.{IsIndexed}
use Rattle.ring_store.specs.Common.{AreNew}

-- a way that does not come back to p has no other segment with the end p
once : (p q : Position) (ps : List Position) → has (q ∷ ps) p ≡ false → (t : Segment)
    → segment_is t (segment_of (p, q)) ≡ true → has_segment (segments_along (q ∷ ps)) t ≡ false
once p q ps h t e = false_from_ne_true (has_segment (segments_along (q ∷ ps)) t) (λ k.
    let u = any_in (segment_is t) (segments_along (q ∷ ps)) k in
    let x = in_mapped segment_of u.0 (links (q ∷ ps)) u.1 in
    let ends = links_in (q ∷ ps) x.0 x.1 in
    let same : segment_of x.0 ≡ segment_of (p, q) = x.2 ∙ sym (same_segment t u.0 u.2) ∙ same_segment t (segment_of (p, q)) e in
    elim (same_ends x.0 (p, q) same) [
      | inl m ↦ away (subst (λ z. In z (q ∷ ps)) (sym m.0) ends.0)
      | inr m ↦ away (subst (λ z. In z (q ∷ ps)) (sym m.0) ends.1)
    ])
  where
    away : In p (q ∷ ps) → ⊥
    away i = false≢true (sym h ∙ in-has p (q ∷ ps) i)

pub way_single : (ps : List Position) → is_distinct ps ≡ true → AreSingle (segments_along ps)
way_single [] d t = omega arith
way_single (p ∷ []) d t = omega arith
way_single (p ∷ q ∷ ps) d t =
    let d' = and_parts (not (has (q ∷ ps) p)) (is_distinct (q ∷ ps)) d in
    by (not-true _ d'.0) (segment_is t (segment_of (p, q))) refl (way_single (q ∷ ps) d'.1 t)
  where
    by : has (q ∷ ps) p ≡ false → (b : Bool) → segment_is t (segment_of (p, q)) ≡ b
        → times_in (segments_along (q ∷ ps)) t ≤ 1
        → cond b 1 0 + times_in (segments_along (q ∷ ps)) t ≤ 1
    by h true e l = omega (arith, times-none (segments_along (q ∷ ps)) t (once p q ps h t e))
    by h false e l = omega (arith, l)

-- ---- in a map

-- none of them is held, where none is a segment of the map
pub path_new : (d : Document) (held : SegmentSet) (path : Path) → IsIndexed d held
    → is_path_segment d path ≡ false → AreNew held (path_segments path)
path_new d held path indexed new t h =
    let u = any_in (segment_is t) (path_segments path) h in
    let x = in_mapped segment_of u.0 (links (positions_of path)) u.1 in
    indexed t ∙ ap (is_segment d) (same_segment t u.0 u.2 ∙ sym x.2)
    ∙ none_in (λ e. is_segment d (segment_of e)) (links (positions_of path)) x.0 new x.1
