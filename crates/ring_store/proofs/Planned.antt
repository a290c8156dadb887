-- Steps of loops over a list, and what an index comes to hold where segments come and go.
use Rattle.kit_words.proofs.Common.{◌≡◌, ◌≤◌, ◌<◌, ◌+◌, ℕ, Bool, true, false, refl, sym, ap, ap₂, ◌∙◌, cond, List, []}
use Rattle.kit_words.proofs.Common.{◌∷◌, length, take, get_or, ◌||◌, ◌&&◌, arith, leb, zero, suc, not, ◌==◌, ◌≢◌}
use Rattle.kit_words.proofs.Common.{list_any, AllByRecursion, false≢true, Decides-eqb, take_more, list_any_more}
use Rattle.std.specs.FinSet as set
use Rattle.grid_geometry.specs.Common.{Segment}
use Rattle.ring_machine.specs.Common.{are_distinct}
use Rattle.segment_index.specs.Common.{SegmentSet, AreAmong, AreSingle, segment_is, has, times_in}
use Rattle.segment_index.proofs.Common.{segment_total, same_sets, is-itself, has-is, has-some, times-some, times-push}
use Rattle.segment_index.proofs.Common.{times-take}
use Rattle.arc_tables.specs.Common.{AllDifferent}
use Rattle.ring_store.specs.Common.{AreNew, GainsSegments, Drops, Exchanges}
use Rattle.ring_store.proofs.KeyRings.{has_key}

-- ---- lists

-- a test that passes at an index
pub any_at : {A : Type 0} (test : A → Bool) (xs : List A) (i : ℕ) (d : A) → i < length xs
    → test (get_or xs i d) ≡ true → list_any test xs ≡ true
any_at test [] i d h t = absurd (omega arith)
any_at test (x ∷ xs) zero d h t = ap (λ b. b || list_any test xs) t
any_at test (x ∷ xs) (suc i) d h t = or_more (test x) (any_at test xs i d (omega arith) t)
  where
    or_more : (a : Bool) → list_any test xs ≡ true → (a || list_any test xs) ≡ true
    or_more true e = refl
    or_more false e = e

-- numbers of which no two are one
pub all_different : (xs : List ℕ) → AllDifferent xs → are_distinct xs ≡ true
all_different [] d = refl
all_different (x ∷ xs) d = ap₂ (λ a b. not a && b) (absent xs d.0) (all_different xs d.1)
  where
    absent : (ys : List ℕ) → AllByRecursion (λ y. y ≢ x) ys → has_key x ys ≡ false
    absent [] a = refl
    absent (y ∷ ys) a = ap₂ (λ b c. b || c) (other (y == x) refl) (absent ys a.1)
      where
        other : (b : Bool) → (y == x) ≡ b → (y == x) ≡ false
        other false e = e
        other true e = absurd (a.0 ((Decides-eqb y x).0 e))

-- ---- segments that stand once

pub single_take : (ss : List Segment) (i : ℕ) → AreSingle ss → AreSingle (take i ss)
single_take ss i h t = omega (arith, h t, times-take i ss t)

-- none of those before a segment is that segment
pub single_before : (ss : List Segment) (i : ℕ) (d : Segment) → AreSingle ss → i < length ss
    → has (take i ss) (get_or ss i d) ≡ false
single_before ss i d h l =
    has-is (take i ss) (get_or ss i d) ∙ none (times_in (take i ss) (get_or ss i d)) (omega (arith, h (get_or ss i d), most, more, here))
  where
    most : times_in (take (i + 1) ss) (get_or ss i d) ≤ times_in ss (get_or ss i d)
    most = times-take (i + 1) ss (get_or ss i d)

    more : times_in (take (i + 1) ss) (get_or ss i d) ≡ times_in (take i ss) (get_or ss i d) + cond (segment_is (get_or ss i d) (get_or ss i d)) 1 0
    more = ap (λ z. times_in z (get_or ss i d)) (take_more ss i d l) ∙ times-push (take i ss) (get_or ss i d) (get_or ss i d)

    here : cond {A = ℕ} (segment_is (get_or ss i d) (get_or ss i d)) 1 0 ≡ 1
    here = ap (λ b. cond {A = ℕ} b 1 0) (is-itself (get_or ss i d))

    none : (n : ℕ) → n ≡ 0 → leb 1 n ≡ false
    none n e = ap (leb 1) e

-- what stands at an index of a list is in it
pub has_at : (ss : List Segment) (i : ℕ) (d : Segment) → i < length ss → has ss (get_or ss i d) ≡ true
has_at ss i d l = any_at (segment_is (get_or ss i d)) ss i d l (is-itself (get_or ss i d))

pub has_taken : (ss : List Segment) (i : ℕ) (t : Segment) → has (take i ss) t ≡ true → has ss t ≡ true
has_taken ss i t h = has-some ss t (omega (arith, times-some (take i ss) t h, times-take i ss t))

-- ---- steps of an index

-- the next segment that comes is not held yet
pub next_new : (old now : SegmentSet) (ss : List Segment) (i : ℕ) (x : Segment) → AreNew old ss
    → AreSingle ss → i < length ss → x ≡ get_or ss i x → GainsSegments old (take i ss) now
    → set.contains now x ≡ false
next_new old now ss i x new single l e h =
    ap (set.contains now) e ∙ h (get_or ss i x)
    ∙ ap₂ (λ a b. a || b) (new (get_or ss i x) (has_at ss i x l)) (single_before ss i x single l)

-- and then it has come
pub gained_more : (old now next : SegmentSet) (ss : List Segment) (i : ℕ) (x : Segment)
    → i < length ss → x ≡ get_or ss i x → GainsSegments old (take i ss) now → next ≡ set.insert now x
    → GainsSegments old (take (i + 1) ss) next
gained_more old now next ss i x l e h n t =
    ap (λ z. set.contains z t) (n ∙ ap (set.insert now) e) ∙ set.contains-insert segment_total now (get_or ss i x) t
    ∙ ap (λ b. segment_is t (get_or ss i x) || b) (h t)
    ∙ turned (segment_is t (get_or ss i x)) (set.contains old t) (has (take i ss) t)
    ∙ ap (λ b. set.contains old t || b) (sym (list_any_more (segment_is t) ss i x l))
  where
    turned : (a b c : Bool) → (a || (b || c)) ≡ (b || (c || a))
    turned true true c = refl
    turned true false true = refl
    turned true false false = refl
    turned false true c = refl
    turned false false true = refl
    turned false false false = refl

-- the next segment that goes is still held
pub next_held : (old now : SegmentSet) (ss : List Segment) (i : ℕ) (x : Segment) → AreAmong old ss
    → AreSingle ss → i < length ss → x ≡ get_or ss i x → Drops old (take i ss) now
    → set.contains now x ≡ true
next_held old now ss i x among single l e h =
    ap (set.contains now) e ∙ h (get_or ss i x)
    ∙ ap₂ (λ a b. a && not b) (among (get_or ss i x) (has_at ss i x l)) (single_before ss i x single l)

-- and then it went
pub dropped_more : (old now next : SegmentSet) (ss : List Segment) (i : ℕ) (x : Segment)
    → i < length ss → x ≡ get_or ss i x → Drops old (take i ss) now → next ≡ set.remove now x
    → Drops old (take (i + 1) ss) next
dropped_more old now next ss i x l e h n t =
    ap (λ z. set.contains z t) (n ∙ ap (set.remove now) e) ∙ set.contains-remove segment_total now (get_or ss i x) t
    ∙ ap (λ b. not (segment_is t (get_or ss i x)) && b) (h t)
    ∙ turned (segment_is t (get_or ss i x)) (set.contains old t) (has (take i ss) t)
    ∙ ap (λ b. set.contains old t && not b) (sym (list_any_more (segment_is t) ss i x l))
  where
    turned : (a b c : Bool) → (not a && (b && not c)) ≡ (b && not (c || a))
    turned true true true = refl
    turned true true false = refl
    turned true false c = refl
    turned false true true = refl
    turned false true false = refl
    turned false false c = refl

pub gains_none : (old : SegmentSet) → GainsSegments old [] old
gains_none old t = by (set.contains old t)
  where
    by : (b : Bool) → b ≡ (b || false)
    by true = refl
    by false = refl

pub drops_none : (old : SegmentSet) → Drops old [] old
drops_none old t = by (set.contains old t)
  where
    by : (b : Bool) → b ≡ (b && true)
    by true = refl
    by false = refl

-- ---- whole lists

-- what came is held
pub gained_among : (old now : SegmentSet) (ss : List Segment) → GainsSegments old ss now → AreAmong now ss
gained_among old now ss h t i = h t ∙ or_second (set.contains old t) i
  where
    or_second : (a : Bool) → has ss t ≡ true → (a || has ss t) ≡ true
    or_second true e = refl
    or_second false e = e

-- what was held still is
pub still_held : (old now : SegmentSet) (ss held : List Segment) → GainsSegments old ss now
    → AreAmong old held → AreAmong now held
still_held old now ss held h among t i = h t ∙ ap (λ b. b || has ss t) (among t i)

-- what came and went leaves the index as it was
pub came_and_went : (old now next : SegmentSet) (ss : List Segment) → AreNew old ss
    → GainsSegments old ss now → Drops now ss next → next ≡ old
came_and_went old now next ss new gained dropped =
    same_sets next old (λ t. dropped t ∙ ap (λ b. b && not (has ss t)) (gained t) ∙ by t (has ss t) refl (set.contains old t) refl)
  where
    by : (t : Segment) (b : Bool) → has ss t ≡ b → (a : Bool) → set.contains old t ≡ a
        → ((set.contains old t || has ss t) && not (has ss t)) ≡ set.contains old t
    by t true e true f = absurd (false≢true (sym (new t e) ∙ f))
    by t true e false f = ap₂ (λ a b. (a || b) && not b) f e ∙ sym f
    by t false e true f = ap₂ (λ a b. (a || b) && not b) f e ∙ sym f
    by t false e false f = ap₂ (λ a b. (a || b) && not b) f e ∙ sym f

-- the segments before an index, where they are new
pub new_taken : (old : SegmentSet) (ss : List Segment) (i : ℕ) → AreNew old ss → AreNew old (take i ss)
new_taken old ss i h t e = h t (has_taken ss i t e)

-- the added ones came, and then the others went
pub exchanged : (old now next : SegmentSet) (added gone : List Segment) → GainsSegments old added now
    → Drops now gone next → Exchanges old added gone next
exchanged old now next added gone gained dropped t =
    dropped t ∙ ap (λ b. b && not (has gone t)) (gained t)
