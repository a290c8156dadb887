-- How many segments an index holds, and a document has.
use Rattle.kit_words.proofs.Common.{◌≡◌, ◌+◌, Bool, false, sym, ap, ap₂, ◌∙◌, List, [], ◌∷◌, length, ◌||◌, arith, fold}
use Rattle.kit_words.proofs.Common.{or_right}
use Rattle.std.specs.FinSet as set
use Rattle.grid_geometry.specs.Common.{Segment, segment_cmp}
use Rattle.ring_machine.specs.Common.{Document, all_segments, add_segment, distinct_segments}
use Rattle.segment_index.specs.Common.{SegmentSet, AreSingle, segment_is, has}
use Rattle.segment_index.proofs.Common.{segment_total, same_sets, is-itself}
use Rattle.local_planarity.proofs.Added.{single_first, single_rest}
use Rattle.feature_exchange.specs.Common.{IsIndexed}
use Rattle.ring_store.specs.Common.{AreNew, GainsSegments}
use Rattle.ring_store.proofs.Common.{has-eq, or_nothing, has_all, single_all}

or_swap : (a b c : Bool) → (a || (b || c)) ≡ (b || (a || c))
or_swap a b c = grind arith

-- ---- what an index holds

-- the index that came to hold these too
abbrev gained : SegmentSet → List Segment → SegmentSet
gained h [] = h
gained h (x ∷ xs) = set.insert (gained h xs) x

contains_gained : (h : SegmentSet) (xs : List Segment) (t : Segment)
    → set.contains (gained h xs) t ≡ (set.contains h t || has xs t)
contains_gained h [] t = or_nothing (set.contains h t)
contains_gained h (x ∷ xs) t =
    set.contains-insert segment_total (gained h xs) x t ∙ ap (λ b. segment_is t x || b) (contains_gained h xs t)
    ∙ or_swap (segment_is t x) (set.contains h t) (has xs t)

new_rest : (h : SegmentSet) (x : Segment) (xs : List Segment) → AreNew h (x ∷ xs) → AreNew h xs
new_rest h x xs new t e = new t (or_right (segment_is t x) (has xs t) e)

len_gained : (h : SegmentSet) (xs : List Segment) → AreSingle xs → AreNew h xs
    → set.len (gained h xs) ≡ set.len h + length xs
len_gained h [] single new = omega arith
len_gained h (x ∷ xs) single new =
    let absent : set.contains (gained h xs) x ≡ false =
    contains_gained h xs x ∙ ap₂ (λ a b. a || b) (new x (ap (λ b. b || has xs x) (is-itself x))) (single_first x xs single) in
    grind (arith, absent, set.len-insert segment_total (gained h xs) x, len_gained h xs (single_rest x xs single) (new_rest h x xs new))

-- as many more as came
pub len_gains : (old new : SegmentSet) (xs : List Segment) → AreSingle xs → AreNew old xs
    → GainsSegments old xs new → set.len new ≡ set.len old + length xs
len_gains old new xs single free h =
    ap set.len (same_sets new (gained old xs) (λ t. h t ∙ sym (contains_gained old xs t))) ∙ len_gained old xs single free

-- ---- the segments of a document, each once

-- an index of these segments holds as many
list_len : (ss : List Segment) (held : SegmentSet) → ((t : Segment) → set.contains held t ≡ has ss t)
    → length (fold add_segment [] ss) ≡ set.len held
list_len ss held h =
    omega (
      arith,
      len_gains set.empty held (fold add_segment [] ss) (single_all [] ss (λ t. omega arith)) (λ t e. set.contains-empty segment_cmp t) is,
      set.len-empty segment_cmp,
    )
  where
    is : GainsSegments set.empty (fold add_segment [] ss) held
    is t =
        h t ∙ sym (has_all [] ss t)
        ∙ ap (λ b. b || has (fold add_segment [] ss) t) (sym (set.contains-empty segment_cmp t))

-- an index of the document's segments holds as many
pub indexed_len : (d : Document) (held : SegmentSet) → IsIndexed d held
    → length (distinct_segments d) ≡ set.len held
indexed_len d held h = list_len (all_segments d) held (λ t. h t ∙ sym (has-eq (all_segments d) t))
