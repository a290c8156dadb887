-- The segments near a box that count, each once, have all that count and meet it.
use Rattle.kit_words.proofs.Common.{◌≡◌, Bool, true, false, refl, sym, ap, ap₂, ◌∙◌, subst, List, [], ◌∷◌, ◌||◌, ◌&&◌}
use Rattle.kit_words.proofs.Common.{AllByRecursion, filter, list_any, dedup, IsPermutation, IsSorted}
use Rattle.kit_words.proofs.Common.{IsStrictlySortedBy, IsFiltered, DiffersFromLast, eq_by_cmp, is_lt, tied_then, Less}
use Rattle.kit_words.proofs.Common.{dedup_is, IsStrictlySortedBy-dedup, IsPermutation-sym}
use Rattle.grid_geometry.specs.Common.{Position, position_cmp, Segment, Box, segment_eq, segment_cmp, segment_lt}
use Rattle.ring_machine.specs.Common.{Document}
use Rattle.ring_machine.proofs.Common.{In, filter-in, contains_in, in_contains, segment_ordered}
use Rattle.ring_machine.proofs.Common.{segment_eq-true, in_permuted, none_new, none_lost, ties, in-filter}
use Rattle.segment_index.proofs.Common.{segment_total}
use Rattle.arc_store.specs.Common.{ListsNear}
use Rattle.point_queries.specs.Common.{EachOnce, ArePassed, is_passed}

-- ---- ascending segments, each once

segment_ties : (s t : Segment) → segment_eq s t ≡ eq_by_cmp segment_cmp s t
segment_ties s t = ap₂ (λ y z. y && z) (ties s.lo t.lo) (ties s.hi t.hi) ∙ tied_then (position_cmp s.lo t.lo) (position_cmp s.hi t.hi)

lacks : (s : Segment) (ss : List Segment) → AllByRecursion (λ t. segment_cmp s t ≡ Less) ss → list_any (segment_eq s) ss ≡ false
lacks s [] h = refl
lacks s (t ∷ ss) h = ap₂ (λ y z. y || z) (by (segment_eq s t) refl) (lacks s ss h.1)
  where
    by : (b : Bool) → segment_eq s t ≡ b → b ≡ false
    by false e = refl
    by true e = sym (ap is_lt h.0) ∙ ap (segment_lt s) (sym (segment_eq-true s t e)) ∙ segment_ordered.irrefl s

are_apart : (ss : List Segment) → IsStrictlySortedBy segment_cmp ss → EachOnce segment_eq ss
unfolding IsStrictlySortedBy
are_apart [] h = tt
are_apart (s ∷ ss) h = (lacks s ss h.0, are_apart ss h.1)

module _ (d : Document) (p : Position) (rect : Box) (near : List Segment) (n : ListsNear d rect [] near)
    (kept sorted once : List Segment) (filtered : kept ≡ filter (is_passed p) near)
    (permutation : IsPermutation kept sorted) (ascending : IsSorted segment_cmp sorted)
    (each : IsFiltered (DiffersFromLast segment_eq) [] sorted once) where
  is : once ≡ dedup segment_eq sorted
  is = dedup_is segment_eq sorted once each

  kept_in : (s : Segment) → In s once → In s kept
  kept_in s i = in_permuted kept sorted permutation s (none_new segment_eq segment_eq-true sorted s (subst (In s) is i))

  in_kept : (s : Segment) → In s kept → In s once
  in_kept s i = subst (In s) (sym is) (none_lost segment_eq segment_eq-true sorted s (in_permuted sorted kept (IsPermutation-sym kept sorted permutation) s i))

  pub passed_are : ArePassed d p rect once
  passed_are = record {
    among = λ s c.
        let k = in-filter (is_passed p) s near (subst (In s) filtered (kept_in s (contains_in once s c))) in
        (n.among s (in_contains n.found s (subst (In s) n.appended k.0)), k.1);
    covers = λ s i h m.
        let there : In s near = subst (In s) (sym n.appended) (contains_in n.found s (n.covers s i m)) in
        in_contains once s (in_kept s (subst (In s) (sym filtered) (filter-in (is_passed p) s near there h)));
    apart = are_apart once (subst (IsStrictlySortedBy segment_cmp) (sym is) (IsStrictlySortedBy-dedup segment_total segment_ties sorted ascending));
  }
