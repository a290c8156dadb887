-- Ascending segments in an index: one after another, and what is given near a box.
use Rattle.kit_words.proofs.Common.{◌≡◌, ◌<◌, ◌+◌, ℕ, Bool, true, false, refl, sym, ap, ◌∙◌, subst, List, [], ◌++◌}
use Rattle.kit_words.proofs.Common.{length, take, get_or, ◌||◌, Contains, filter, list_any_more}
use Rattle.kit_words.proofs.Common.{IsStrictlySortedBy-filter, IsStrictlySortedBy, or_comm}
use Rattle.std.specs.FinSet as set
use Rattle.grid_geometry.specs.Common.{Segment, Box, box_of, boxes_meet, segment_cmp}
use Rattle.ring_machine.proofs.Common.{In, filter-in, contains_in, in_contains, in-filter}
use Rattle.segment_index.specs.Common.{SegmentSet, Gives, has, segment_is}
use Rattle.segment_index.proofs.Common.{segment_total}
use Rattle.walk_faults.specs.Common.{ListsAll, AreHeld}
use Rattle.walk_faults.proofs.Ascending.{not_less, before_it, same_ascending}
use Rattle.walk_faults.proofs.Lists.{in-has, has-in}

-- no segment is among those before it
pub none_before : (ss : List Segment) (i : ℕ) (s : Segment) → IsStrictlySortedBy segment_cmp ss → i < length ss → s ≡ get_or ss i s
    → has (take i ss) s ≡ false
none_before ss i s h l e = by (has (take i ss) s) refl
  where
    by : (b : Bool) → has (take i ss) s ≡ b → b ≡ false
    by false k = refl
    by true k = absurd (not_less segment_cmp segment_total s (before_it segment_cmp segment_total ss i s h l e s (in-has (take i ss) s k)))

-- one segment more is held
pub one_more : (held held' : SegmentSet) (ss : List Segment) (i : ℕ) (s t : Segment) → i < length ss → s ≡ get_or ss i s
    → held' ≡ set.insert held s → set.contains held t ≡ has (take i ss) t
    → set.contains held' t ≡ has (take (i + 1) ss) t
one_more held held' ss i s t l e put before =
    ap (λ h. set.contains h t) put ∙ set.contains-insert segment_total held s t
    ∙ ap (λ b. segment_is t s || b) before ∙ or_comm (segment_is t s) (has (take i ss) t)
    ∙ ap (λ z. has (take i ss) t || segment_is t z) e ∙ sym (list_any_more (segment_is t) ss i s l)

-- what is kept of the candidates for a box, sorted, is what passes of all held segments
pub near_is : (held : SegmentSet) (times : Segment → Box → ℕ) (rect : Box) (test : Segment → Bool)
    (old new kept sorted ss : List Segment) → old ≡ [] → Gives held times rect old new true
    → kept ≡ filter test new → ListsAll segment_cmp (Contains kept) sorted → AreHeld held ss
    → ((t : Segment) → test t ≡ true → boxes_meet (box_of t) rect ≡ true)
    → sorted ≡ filter test ss
near_is held times rect test old new kept sorted ss empty g keep all h meets =
    same_ascending segment_cmp segment_total sorted (filter test ss) all.ascending
    (IsStrictlySortedBy-filter segment_cmp test ss h.ascending) to from
  where
    found : new ≡ g.found
    found = g.appended ∙ ap (λ z. z ++ g.found) empty

    to : (t : Segment) → In t sorted → In t (filter test ss)
    to t i =
        let k = in-filter test t new (subst (In t) keep (contains_in kept t ((all.all t).0 (in_contains sorted t i)))) in
        let there = g.among t (has-in g.found t (subst (In t) found k.0)) in
        filter-in test t ss (in-has ss t (sym (h.same t) ∙ there)) k.1

    from : (t : Segment) → In t (filter test ss) → In t sorted
    from t i =
        let k = in-filter test t ss i in
        let there = g.covers refl t (h.same t ∙ has-in ss t k.0) (meets t k.1) in
        let near = filter-in test t new (subst (In t) (sym found) (in-has g.found t there)) k.1 in
        contains_in sorted t ((all.all t).1 (in_contains kept t (subst (In t) (sym keep) near)))
