-- Polygons as parts of one: their rings, and each odd segment once.
use Rattle.kit_words.proofs.Common.{◌≡◌, ◌<◌, ◌+◌, ℕ, zero, suc, ◌==◌, Bool, true, false, refl, sym, ap, ◌∙◌, subst}
use Rattle.kit_words.proofs.Common.{cond, List, [], ◌∷◌, length, ◌&&◌, ◌||◌, arith, Decides, flat_map, list_all}
use Rattle.kit_words.proofs.Common.{IsPermutation, IsStrictlySortedBy, Less, and_parts, and_from, nat_tests}
use Rattle.kit_words.proofs.Common.{list_all-append, sum_by-cons, map, false≢true, by_bool, and_none}
use Rattle.grid_geometry.specs.Common.{Position, Segment, segment_cmp, segment_eq}
use Rattle.ring_machine.specs.Common.{is_ring}
use Rattle.ring_machine.proofs.Common.{segment_eq-true, in_recursion}
use Rattle.segment_index.proofs.Common.{segment_total}
use Rattle.ring_parts.proofs.Lists as lists
use Rattle.walk_faults.proofs.Common.{not_less}
use Rattle.walk_faults.specs.Common.{walk_segments}
use Rattle.walk_mending.specs.Common.{is_among, is_odd_in, rings_of_parts, has_ring, ArePartsOf, HasOdd}
use Rattle.walk_mending.proofs.Cancelling.{times, among-in, segment_eq-refl}
use Rattle.walk_mending.proofs.Bounds.{as_often}

-- ---- rings

abbrev pub is_filled : List (List Position) → Bool
is_filled part = has_ring part && list_all is_ring part

filled_parts : (parts : List (List (List Position))) → list_all is_filled parts ≡ true
    → (list_all has_ring parts ≡ true) × (list_all is_ring (rings_of_parts parts) ≡ true)
filled_parts [] h = (refl, refl)
filled_parts (part ∷ parts) h =
    let both = and_parts (is_filled part) (list_all is_filled parts) h in
    let here = and_parts (has_ring part) (list_all is_ring part) both.0 in
    let rest = filled_parts parts both.1 in (
      and_from (has_ring part) (list_all has_ring parts) here.0 rest.0,
      list_all-append is_ring part (rings_of_parts parts) ∙ and_from (list_all is_ring part) (list_all is_ring (rings_of_parts parts)) here.1 rest.1,
    )

-- ---- each segment once

-- of ascending segments none stands twice
pub once : (ss : List Segment) (s : Segment) → IsStrictlySortedBy segment_cmp ss → times s ss ≡ cond (is_among ss s) 1 0
unfolding IsStrictlySortedBy
once [] s h = refl
once (t ∷ ss) s h = sum_by-cons (λ u. cond {A = ℕ} (segment_eq s u) 1 0) t ss ∙ by (segment_eq s t) refl (once ss s h.1)
  where
    away : segment_eq s t ≡ true → is_among ss s ≡ false
    away e = by_bool (is_among ss s)
        (λ k.
        let less = in_recursion (λ z. segment_cmp t z ≡ Less) ss s h.0 (among-in ss s k) in
        absurd (not_less segment_cmp segment_total s (subst (λ z. segment_cmp z s ≡ Less) (sym (segment_eq-true s t e)) less)))
        (λ k. k)

    by : (b : Bool) → segment_eq s t ≡ b → times s ss ≡ cond (is_among ss s) 1 0 → cond {A = ℕ} b 1 0 + times s ss ≡ cond (b || is_among ss s) 1 0
    by true e k = let none = k ∙ ap (λ b. cond {A = ℕ} b 1 0) (away e) in omega (arith, none)
    by false e k = omega (arith, k)

pub are_parts : (walks : List (List Position)) (parts : List (List (List Position))) (odd : List Segment) → list_all is_filled parts ≡ true
    → IsStrictlySortedBy segment_cmp odd → ((s : Segment) → is_among odd s ≡ is_odd_in walks s)
    → IsPermutation (flat_map walk_segments (rings_of_parts parts)) odd → ArePartsOf walks parts
are_parts walks parts odd h up is p = record {
  rings = (filled_parts parts h).1;
  filled = (filled_parts parts h).0;
  odd = λ s. sym (as_often s (flat_map walk_segments (rings_of_parts parts)) odd p) ∙ once odd s up ∙ ap (λ b. cond {A = ℕ} b 1 0) (is s);
}

-- ---- the segments of one part more

-- segments are equal exactly where the test says so
pub segment_decides : (s t : Segment) → Decides (segment_eq s t) (s ≡ t)
segment_decides s t = (segment_eq-true s t, λ e. ap (segment_eq s) (sym e) ∙ segment_eq-refl s)

-- ---- where no segment bounds

not_none : (n : ℕ) → (suc n == 0) ≡ true → ⊥
not_none n e = grind (arith, nat_tests)

pub none_left : {X : Type 0} (ss : List X) (n : ℕ) (b : Bool) → n ≡ length ss → b ≡ (n == 0) → b ≡ true → ss ≡ []
none_left [] n b l e h = refl
none_left (s ∷ ss) zero b l e h = absurd (omega (arith, l))
none_left (s ∷ ss) (suc n) b l e h = absurd (not_none n (sym e ∙ h))

pub no_parts : (walks : List (List Position)) (parts : List (List (List Position))) (odd : List Segment) → odd ≡ [] → ((s : Segment) → is_among odd s ≡ is_odd_in walks s)
    → parts ≡ [] → ArePartsOf walks parts
no_parts walks parts odd none is e =
    subst (ArePartsOf walks) (sym e)
    (record {
      rings = refl;
      filled = refl;
      odd = λ s. ap (λ b. cond {A = ℕ} b 1 0) (ap (λ ss. is_among ss s) (sym none) ∙ is s);
    })

-- the first of those that stand an odd number of times
pub some_odd : (walks : List (List Position)) (odd : List Segment) → 0 < length odd → ((s : Segment) → is_among odd s ≡ is_odd_in walks s) → HasOdd walks
some_odd walks [] l is = absurd (omega (arith, l))
some_odd walks (s ∷ ss) l is = (s, sym (is s) ∙ ap (λ b. b || is_among ss s) (segment_eq-refl s))

-- ---- a part alone

-- without a ring
pub unfilled_empty : {X : Type 0} (seen : X → List Position) (xs : List X) (n : ℕ) (b : Bool) → n ≡ length xs → b ≡ (n == 0) → b ≡ true
    → is_filled (map seen xs) ≡ false
unfilled_empty seen xs n b l e h = ap (λ z. is_filled (map seen z)) (none_left xs n b l e h)

-- with a walk that is no ring
pub unfilled_if : (part : List (List Position)) → list_all is_ring part ≡ false → is_filled part ≡ false
unfilled_if part e = ap (λ b. has_ring part && b) e ∙ and_none (has_ring part)

-- with rings alone
pub filled_if : {X : Type 0} (seen : X → List Position) (xs : List X) (n : ℕ) (b : Bool) → n ≡ length xs → b ≡ (n == 0) → b ≡ false
    → list_all is_ring (map seen xs) ≡ true → is_filled (map seen xs) ≡ true
filled_if seen [] zero b l e h k = absurd (false≢true (sym h ∙ e))
filled_if seen [] (suc n) b l e h k = absurd (omega (arith, l))
filled_if seen (x ∷ xs) n b l e h k = k
