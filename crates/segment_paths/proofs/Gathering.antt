-- Segments in an index, and segments that conflict.
use Rattle.kit_words.proofs.Common.{◌≡◌, ◌<◌, ℕ, ℤ, true, false, ◌&&◌, ◌||◌, int_le, refl, sym, ap, ap₂, subst, ◌∙◌}
use Rattle.kit_words.proofs.Common.{List, [], ◌∷◌, ◌++◌, length, get_or, Contains, None, arith, zero, suc, Option}
use Rattle.kit_words.proofs.Common.{Result, Ok, Err, is_ok, list_any, HoldsAt, IsSearchInRange, Equal, int_min, int_max}
use Rattle.kit_words.proofs.Common.{false≢true, false_from_ne_true, ints, clamps, by_bool}
use Rattle.std.specs.FinSet as set
use Rattle.std.specs.Result.{IfOk}
use Rattle.grid_geometry.specs.Common.{Segment, Box, box_of, boxes_meet, segment_cmp, segment_eq, segment_lt, conflict}
use Rattle.grid_geometry.proofs.Common.{conflict-comm, conflict-same}
use Rattle.ring_machine.specs.Common.{least_conflict, pair_lt}
use Rattle.ring_machine.proofs.Common.{In, least_conflict_is, Bad, IsLeast, contains_in, segment_ordered}
use Rattle.segment_index.specs.Common.{SegmentSet, Gives, has}
use Rattle.segment_index.proofs.Common.{segment_eq-is, segment_exact}

-- ---- in an index

width_meets : (a b : ℤ) → (int_le (int_min a b) (int_max a b) && int_le (int_min a b) (int_max a b)) ≡ true
width_meets a b = grind (arith, ints, clamps)

meets_itself : (s : Segment) → boxes_meet (box_of s) (box_of s) ≡ true
meets_itself s = ap₂ (λ a b. a && b) (width_meets s.lo.x s.hi.x) (width_meets s.lo.y s.hi.y)

same_answer : (xs : List Segment) (t : Segment) → list_any (λ y. segment_eq y t) xs ≡ has xs t
same_answer [] t = refl
same_answer (x ∷ xs) t = ap₂ (λ a b. a || b) (segment_eq-is t x) (same_answer xs t)

-- a segment that is not given for its own box is not held
pub not_held : (held : SegmentSet) (times : Segment → Box → ℕ) (rect : Box) (old new : List Segment) (s : Segment) → old ≡ [] → rect ≡ box_of s
    → Gives held times rect old new true → list_any (λ y. segment_eq y s) new ≡ false → set.contains held s ≡ false
not_held held times rect old new s empty box g none =
    false_from_ne_true (set.contains held s) (λ e.
    false≢true (sym none ∙ same_answer new s ∙ ap (λ z. has z s) (g.appended ∙ ap (λ z. z ++ g.found) empty)
    ∙ g.covers refl s e (ap (boxes_meet (box_of s)) box ∙ meets_itself s)))

-- ---- in conflict

abbrev BadIn : List Segment → Segment × Segment → Type 0
BadIn ss u = Bad segment_lt conflict conflict-comm (λ z. In z ss) u

none_bad : (ss : List Segment) → least_conflict ss ≡ None → (u : Segment × Segment) → BadIn ss u → ⊥
none_bad ss e u b =
    let first : IsLeast pair_lt (BadIn ss) None = subst (IsLeast pair_lt (BadIn ss)) e (least_conflict_is ss) in
    first u b

-- segments of which no two are in conflict
pub none_conflict : (ss : List Segment) (s t : Segment) → least_conflict ss ≡ None → Contains ss s → Contains ss t → conflict s t ≡ true → ⊥
none_conflict ss s t e i j m =
    by_bool (segment_lt s t)
    (λ k. none_bad ss e (s, t) (record { order = k; left = contains_in ss s i; right = contains_in ss t j; meet = m }))
    (λ k. by_bool (segment_lt t s)
    (λ l. none_bad ss e (t, s) (record { order = l; left = contains_in ss t j; right = contains_in ss s i; meet = conflict-comm t s ∙ m }))
    (λ l. false≢true (sym (conflict-same s) ∙ ap (conflict s) (segment_ordered.total s t k l) ∙ m)))

-- a pair of owners stays none, where a list of pieces is empty
pub still_none : (ss : List Segment) (s t : Segment) (n m : ℕ) (old new : Option (Segment × Segment)) → least_conflict ss ≡ None → conflict s t ≡ true
    → (0 < n → Contains ss s) → (0 < m → Contains ss t) → (n ≡ 0 → new ≡ old) → (m ≡ 0 → new ≡ old) → old ≡ None → new ≡ None
still_none ss s t zero m old new e h i j k l was = k refl ∙ was
still_none ss s t (suc n) zero old new e h i j k l was = l refl ∙ was
still_none ss s t (suc n) (suc m) old new e h i j k l was = absurd (none_conflict ss s t e (i (omega arith)) (j (omega arith)) h)

-- what a search finds is there
pub found_in : (ss : List Segment) (s : Segment) (r : Result ℕ ℕ) → IsSearchInRange r (length ss) → IfOk r (HoldsAt (λ y. segment_cmp y s ≡ Equal) ss)
    → is_ok r ≡ true → Contains ss s
found_in ss s (Ok i) l h e = (i, l, segment_exact (get_or ss i s) s (h s))
found_in ss s (Err i) l h e = cc
