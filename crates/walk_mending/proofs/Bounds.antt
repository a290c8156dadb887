-- Which segments bound: all of rings, the odd ones of other walks, and those of one polygon more.
use Rattle.kit_words.proofs.Common.{◌≡◌, ◌<◌, ◌+◌, ℕ, Bool, true, false, refl, sym, ap, ◌∙◌, cond, List, [], ◌∷◌, map}
use Rattle.kit_words.proofs.Common.{get_or, length, take, ◌&&◌, ◌||◌, Contains, arith, nat_le, nat_lt, IsTrue, count_by}
use Rattle.kit_words.proofs.Common.{flat_map, list_all, and_from, list_any, IsPermutation, nat_tests, list_all-map}
use Rattle.kit_words.proofs.Common.{list_all_at, sum_by-IsPermutation, sum_by-cons, and_none}
use Rattle.std.proofs.lemmas.List.Folds.{list_all_more}
use Rattle.grid_geometry.specs.Common.{Position, Segment, segment_cmp, segment_eq}
use Rattle.ring_machine.specs.Common.{begins_least, is_distinct, is_ring}
use Rattle.topo_reader.specs.Common.{is_simple}
use Rattle.ring_machine.proofs.Common.{In, contains_in, in_contains, in_any}
use Rattle.ring_parts.proofs.Lists as lists
use Rattle.ring_parts.proofs.Common.{any_permuted}
use Rattle.walk_faults.specs.Common.{ListsAll, walk_segments}
use Rattle.walk_mending.specs.Common.{is_among, times_in_walks, is_odd_in, is_bounding}
use Rattle.walk_mending.proofs.Cancelling.{times, is_odd, among-in, segment_eq-refl}

-- ---- of one polygon

positive : (b : Bool) (n : ℕ) → (b || nat_lt 0 n) ≡ nat_lt 0 (cond b 1 0 + n)
positive true n = grind (arith, nat_tests)
positive false n = let e : n ≡ 0 + n = omega arith in ap (nat_lt 0) e

pub any_counted : (test : Segment → Bool) (ss : List Segment) → list_any test ss ≡ nat_lt 0 (count_by test ss)
any_counted test [] = refl
any_counted test (s ∷ ss) =
    ap (λ b. test s || b) (any_counted test ss) ∙ positive (test s) (count_by test ss)
    ∙ ap (nat_lt 0) (sym (sum_by-cons (λ u. cond {A = ℕ} (test u) 1 0) s ss))

pub as_often : (t : Segment) (ss sorted : List Segment) → IsPermutation ss sorted → times t sorted ≡ times t ss
as_often t ss sorted p = sum_by-IsPermutation (λ u. cond {A = ℕ} (segment_eq t u) 1 0) ss sorted p

-- of rings each segment
pub all_bound : (walks : List (List Position)) (found : List Segment) → list_all is_simple walks ≡ true
    → IsPermutation (flat_map walk_segments walks) found → (s : Segment) → is_among found s ≡ is_bounding walks s
all_bound walks found h p s =
    any_permuted (segment_eq s) (flat_map walk_segments walks) found p
    ∙ any_counted (segment_eq s) (flat_map walk_segments walks)
    ∙ sym (ap (λ b. cond b (nat_lt 0 (times_in_walks walks s)) (is_odd_in walks s)) h)

-- of other walks the odd ones
pub odd_bound : (walks : List (List Position)) (sorted found : List Segment) → list_all is_simple walks ≡ false
    → IsPermutation (flat_map walk_segments walks) sorted → ((s : Segment) → is_among found s ≡ is_odd (times s sorted))
    → (s : Segment) → is_among found s ≡ is_bounding walks s
odd_bound walks sorted found h p odd s =
    odd s ∙ ap is_odd (as_often s (flat_map walk_segments walks) sorted p)
    ∙ sym (ap (λ b. cond b (nat_lt 0 (times_in_walks walks s)) (is_odd_in walks s)) h)

-- ---- as a list

pub in-among : (ss : List Segment) (s : Segment) → In s ss → is_among ss s ≡ true
in-among ss s i = in_any (segment_eq s) s ss i (segment_eq-refl s)

pub listed : (found sorted : List Segment) (test : Segment → Bool) → ((s : Segment) → is_among found s ≡ test s)
    → ListsAll segment_cmp (Contains found) sorted → ListsAll segment_cmp (λ s. IsTrue (test s)) sorted
listed found sorted test h all = record {
  ascending = all.ascending;
  all = λ s. (
    λ c. sym (h s) ∙ in-among found s (contains_in found s ((all.all s).0 c)),
    λ t. (all.all s).1 (in_contains found s (among-in found s (h s ∙ t))),
  );
}

-- where one element fails, not all pass
pub fails_at : {X Y : Type 0} (test : Y → Bool) (seen : X → Y) (xs : List X) (i : ℕ) (x : X) → i < length xs → x ≡ get_or xs i x
    → test (seen x) ≡ false → false ≡ list_all test (map seen xs)
fails_at test seen xs i x l e h =
    sym (list_all-map test seen xs ∙ list_all_at (λ y. test (seen y)) xs i x l (ap (λ y. test (seen y)) (sym e) ∙ h))

-- where one element more passes, all so far pass
pub passes_on : {X Y : Type 0} (test : Y → Bool) (seen : X → Y) (xs : List X) (i : ℕ) (x : X) → i < length xs → x ≡ get_or xs i x
    → list_all test (map seen (take i xs)) ≡ true → test (seen x) ≡ true → list_all test (map seen (take (i + 1) xs)) ≡ true
passes_on test seen xs i x l e so_far here =
    list_all-map test seen (take (i + 1) xs) ∙ list_all_more (λ y. test (seen y)) xs i x l
    ∙ and_from (list_all (λ y. test (seen y)) (take i xs)) (test (seen (get_or xs i x))) (sym (list_all-map test seen (take i xs)) ∙ so_far)
    (ap (λ y. test (seen y)) (sym e) ∙ here)

-- ---- as a ring, begun at its least position

reorder : (b n d : Bool) → (b && (n && d)) ≡ (n && (d && b))
reorder true true true = refl
reorder true true false = refl
reorder true false d = refl
reorder false true true = refl
reorder false true false = refl
reorder false false d = refl

pub is_ring_if : (ring : List Position) → begins_least ring ≡ true → is_simple ring ≡ true → is_ring ring ≡ true
is_ring_if ring b s = sym (reorder (begins_least ring) (nat_le 3 (length ring)) (is_distinct ring)) ∙ and_from (begins_least ring) (is_simple ring) b s

pub not_least : (ring : List Position) → begins_least ring ≡ false → is_ring ring ≡ false
not_least ring b = sym (reorder (begins_least ring) (nat_le 3 (length ring)) (is_distinct ring)) ∙ ap (λ z. z && is_simple ring) b

pub not_simple : (ring : List Position) → is_simple ring ≡ false → is_ring ring ≡ false
not_simple ring s =
    sym (reorder (begins_least ring) (nat_le 3 (length ring)) (is_distinct ring)) ∙ ap (λ z. begins_least ring && z) s ∙ and_none (begins_least ring)
