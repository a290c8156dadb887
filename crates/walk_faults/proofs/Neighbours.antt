-- Equal neighbours of ascending positions, and the positions that stand more than once.
use Rattle.kit_words.proofs.Common.{◌≡◌, ◌≤◌, ◌+◌, ℕ, suc, Bool, true, false, refl, sym, ap, ◌∙◌, subst, cond, List, []}
use Rattle.kit_words.proofs.Common.{◌∷◌, map, get_or, inl, inr, Contains, arith, nat_le, AllByRecursion, filter, fold}
use Rattle.kit_words.proofs.Common.{count_by, IsPermutation, IsSorted, IsStrictlySortedBy, is_lt, Less, false≢true}
use Rattle.kit_words.proofs.Common.{nat_tests, IsStrictlySortedBy-filter, sum_by-IsPermutation, sum_by-cons, less_is}
use Rattle.grid_geometry.specs.Common.{Position, position_cmp, position_eq, position_lt, Edge, links}
use Rattle.ring_machine.specs.Common.{add_position}
use Rattle.ring_machine.proofs.Common.{In, filter-in, contains_in, in_contains, position_eq-true, position_eq-refl}
use Rattle.ring_machine.proofs.Common.{position_lt-trans, position_lt-total, Rising, all_rise, position_total}
use Rattle.ring_machine.proofs.Common.{in-filter}
use Rattle.ring_machine.proofs.SortedOnce.{all_in}
use Rattle.walk_faults.specs.Common.{ListsAll, is_repeated, repeated}
use Rattle.walk_faults.proofs.Ascending.{same_ascending}

-- of each two equal neighbours one
abbrev pub twice : List Position → List Position
twice ps = map (λ e. e.1) (filter (λ e. position_eq e.0 e.1) (links ps))

-- how often p stands there
abbrev pub times : Position → List Position → ℕ
times p ps = count_by (position_eq p) ps

-- ---- counting

times-cons : (p q : Position) (ps : List Position) → times p (q ∷ ps) ≡ cond (position_eq p q) 1 0 + times p ps
times-cons p q ps = sum_by-cons (λ r. cond {A = ℕ} (position_eq p r) 1 0) q ps

pub times-same : (p q : Position) (ps : List Position) → position_eq p q ≡ true → times p (q ∷ ps) ≡ 1 + times p ps
times-same p q ps e = times-cons p q ps ∙ ap (λ b. cond b 1 0 + times p ps) e

pub times-other : (p q : Position) (ps : List Position) → position_eq p q ≡ false → times p (q ∷ ps) ≡ times p ps
times-other p q ps e = omega (arith, times-cons p q ps, ap (λ b. cond {A = ℕ} b 1 0) e)

at_most_one : (b : Bool) → cond {A = ℕ} b 1 0 ≤ 1
at_most_one true = omega arith
at_most_one false = omega arith

pub times-le : (p q : Position) (ps : List Position) → times p ps ≤ times p (q ∷ ps)
times-le p q ps = omega (arith, times-cons p q ps)

pub in_times : (p : Position) (ps : List Position) → In p ps → 1 ≤ times p ps
in_times p [] i = absurd i
in_times p (q ∷ ps) (inl e) = omega (arith, times-same p q ps (ap (position_eq p) e ∙ position_eq-refl p))
in_times p (q ∷ ps) (inr i) = omega (arith, times-le p q ps, in_times p ps i)

pub times_in : (p : Position) (ps : List Position) → 1 ≤ times p ps → In p ps
times_in p [] h = absurd (omega arith)
times_in p (q ∷ ps) h = by (position_eq p q) refl (times_in p ps)
  where
    by : (b : Bool) → position_eq p q ≡ b → (1 ≤ times p ps → In p ps) → In p (q ∷ ps)
    by true e rest = inl (sym (position_eq-true p q e))
    by false e rest = inr (rest (omega (arith, h, times-other p q ps e)))

-- ---- neighbours

twice-cons : (a b : Position) (ps : List Position) → twice (a ∷ b ∷ ps) ≡ cond (position_eq a b) (b ∷ twice (b ∷ ps)) (twice (b ∷ ps))
twice-cons a b ps = by (position_eq a b)
  where
    rest : List Edge
    rest = filter (λ e. position_eq e.0 e.1) (links (b ∷ ps))

    by : (t : Bool) → map (λ e. e.1) (cond {A = List Edge} t ((a, b) ∷ rest) rest) ≡ cond t (b ∷ map (λ e. e.1) rest) (map (λ e. e.1) rest)
    by true = refl
    by false = refl

-- equal neighbours are two
twice_two : (p : Position) (ps : List Position) → In p (twice ps) → 2 ≤ times p ps
twice_two p [] i = absurd i
twice_two p (a ∷ []) i = absurd i
twice_two p (a ∷ b ∷ ps) i = by (position_eq a b) refl (subst (In p) (twice-cons a b ps) i) (twice_two p (b ∷ ps))
  where
    by : (t : Bool) → position_eq a b ≡ t → In p (cond t (b ∷ twice (b ∷ ps)) (twice (b ∷ ps))) → (In p (twice (b ∷ ps)) → 2 ≤ times p (b ∷ ps)) → 2 ≤ times p (a ∷ b ∷ ps)
    by true e (inl f) rest =
        let same_b : position_eq p b ≡ true = ap (position_eq p) f ∙ position_eq-refl p in
        let same_a : position_eq p a ≡ true = ap (position_eq p) (position_eq-true a b e) ∙ same_b in
        omega (arith, times-same p a (b ∷ ps) same_a, times-same p b ps same_b)
    by true e (inr j) rest = omega (arith, rest j, times-le p a (b ∷ ps))
    by false e j rest = omega (arith, rest j, times-le p a (b ∷ ps))

pub sorted_rest : (a : Position) (ps : List Position) → IsSorted position_cmp (a ∷ ps) → IsSorted position_cmp ps
sorted_rest a ps h k d z l =
    let e : suc k + 1 ≡ suc (k + 1) = omega arith in
    subst (λ n. is_lt (position_cmp (get_or (a ∷ ps) n d) (get_or ps k d)) ≡ false) e (h (suc k) d (omega arith) (omega arith))

-- none after the first is less than it
pub none_less : (a : Position) (ps : List Position) → IsSorted position_cmp (a ∷ ps) → (q : Position) → In q ps → position_lt q a ≡ false
none_less a [] h q i = absurd i
none_less a (b ∷ ps) h q (inl e) = subst (λ z. position_lt z a ≡ false) e (h 0 a (omega arith) (omega arith))
none_less a (b ∷ ps) h q (inr i) =
    by (position_lt q a) refl (position_lt a b) refl (none_less b ps (sorted_rest a (b ∷ ps) h) q i)
  where
    b_after : position_lt b a ≡ false
    b_after = h 0 a (omega arith) (omega arith)

    by : (t : Bool) → position_lt q a ≡ t → (u : Bool) → position_lt a b ≡ u → position_lt q b ≡ false → t ≡ false
    by false e u f after_b = refl
    by true e true f after_b = absurd (false≢true (sym after_b ∙ position_lt-trans q a b e f))
    by true e false f after_b = absurd (false≢true (sym after_b ∙ subst (λ z. position_lt q z ≡ true) (position_lt-total a b f b_after) e))

-- of ascending positions two that are equal have equal neighbours
two_twice : (p : Position) (ps : List Position) → IsSorted position_cmp ps → 2 ≤ times p ps → In p (twice ps)
two_twice p [] h k = absurd (omega arith)
two_twice p (a ∷ []) h k = absurd (omega (arith, k, times-cons p a [], at_most_one (position_eq p a)))
two_twice p (a ∷ b ∷ ps) h k = subst (In p) (sym (twice-cons a b ps)) (by (position_eq p a) refl (position_eq a b) refl (two_twice p (b ∷ ps) tail))
  where
    tail : IsSorted position_cmp (b ∷ ps)
    tail = sorted_rest a (b ∷ ps) h

    -- where p is the first, so is the second
    second : position_eq p a ≡ true → In p (b ∷ ps) → b ≡ p
    second e (inl f) = f
    second e (inr i) =
        let b_low = none_less b ps tail p i in
        let b_high : position_lt b p ≡ false = subst (λ z. position_lt b z ≡ false) (sym (position_eq-true p a e)) (h 0 a (omega arith) (omega arith)) in
        position_lt-total b p b_high b_low

    there : position_eq p a ≡ true → In p (b ∷ ps)
    there e = times_in p (b ∷ ps) (omega (arith, k, times-same p a (b ∷ ps) e))

    by : (t : Bool) → position_eq p a ≡ t → (u : Bool) → position_eq a b ≡ u → (2 ≤ times p (b ∷ ps) → In p (twice (b ∷ ps))) → In p (cond u (b ∷ twice (b ∷ ps)) (twice (b ∷ ps)))
    by true e true f rest = inl (second e (there e))
    by true e false f rest =
        let same : a ≡ b = sym (position_eq-true p a e) ∙ sym (second e (there e)) in
        absurd (false≢true (sym f ∙ ap (position_eq a) (sym same) ∙ position_eq-refl a))
    by false e true f rest = inr (rest (omega (arith, k, times-other p a (b ∷ ps) e)))
    by false e false f rest = rest (omega (arith, k, times-other p a (b ∷ ps) e))

-- ---- ascending ones

all_less : (p : Position) (ps : List Position) → AllByRecursion (λ q. position_lt p q ≡ true) ps → AllByRecursion (λ q. position_cmp p q ≡ Less) ps
all_less p [] h = tt
all_less p (q ∷ ps) h = (less_is (position_cmp p q) h.0, all_less p ps h.1)

rises : (ps : List Position) → Rising ps → IsStrictlySortedBy position_cmp ps
unfolding IsStrictlySortedBy
rises [] h = tt
rises (p ∷ ps) h = (all_less p ps h.0, rises ps h.1)

pub repeated_ascends : (walk : List Position) → IsStrictlySortedBy position_cmp (repeated walk)
repeated_ascends walk = IsStrictlySortedBy-filter position_cmp (is_repeated walk) (fold add_position [] walk) (rises (fold add_position [] walk) (all_rise walk [] tt))

at_least : (n : ℕ) → nat_le 2 n ≡ true → 2 ≤ n
at_least n h = grind (arith, nat_tests)

is_least : (n : ℕ) → 2 ≤ n → nat_le 2 n ≡ true
is_least n h = grind (arith, nat_tests)

pub in_repeated : (walk : List Position) (p : Position) → In p (repeated walk) → 2 ≤ times p walk
in_repeated walk p i = at_least (times p walk) (in-filter (is_repeated walk) p (fold add_position [] walk) i).1

pub repeated_in : (walk : List Position) (p : Position) → 2 ≤ times p walk → In p (repeated walk)
repeated_in walk p h =
    let there : In p walk = times_in p walk (omega (arith, h)) in
    filter-in (is_repeated walk) p (fold add_position [] walk) (all_in walk [] p (inr there)) (is_least (times p walk) h)

-- of a sorted walk the equal neighbours, each once
pub repeated_is : (walk sorted found : List Position) → IsPermutation walk sorted → IsSorted position_cmp sorted
    → ListsAll position_cmp (Contains (twice sorted)) found → found ≡ repeated walk
repeated_is walk sorted found permutation ascending all =
    same_ascending position_cmp position_total found (repeated walk) all.ascending (repeated_ascends walk)
    (λ p i. repeated_in walk p (omega (arith, twice_two p sorted (contains_in (twice sorted) p ((all.all p).0 (in_contains found p i))), as_often p)))
    (λ p i. contains_in found p ((all.all p).1 (in_contains (twice sorted) p (two_twice p sorted ascending (omega (arith, in_repeated walk p i, as_often p))))))
  where
    as_often : (p : Position) → times p sorted ≡ times p walk
    as_often p = sum_by-IsPermutation (λ q. cond {A = ℕ} (position_eq p q) 1 0) walk sorted permutation
