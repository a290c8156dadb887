-- Ascending numbers, each once: sorted ones, and those of features.
use Rattle.kit_words.proofs.Common.{◌≡◌, ◌≢◌, ℕ, ◌<◌, Bool, true, false, refl, sym, ap, ap₂, ◌∙◌, subst, cond, List, []}
use Rattle.kit_words.proofs.Common.{◌∷◌, map, ◌⊎◌, inl, inr, arith, zero, suc, ◌≤◌, length, get_or, Result, Ok, Err}
use Rattle.kit_words.proofs.Common.{is_ok, MatchResult, nat_le, nat_eq, not, ◌==◌, AllByRecursion, fold, filter, dedup}
use Rattle.kit_words.proofs.Common.{list_any, IsPermutation, IsStrictlySortedBy, IsBinarySearchResult, IsFiltered}
use Rattle.kit_words.proofs.Common.{DiffersFromLast, nat_cmp, eq_by_cmp, Less, false≢true, cases_lt, Decides-eqb}
use Rattle.kit_words.proofs.Common.{nat_tests, nat_cmp_total, dedup_is, IsStrictlySortedBy-dedup, IsPermutation-sym}
use Rattle.kit_words.proofs.Common.{searched, and_parts, not-true}
use Rattle.std.specs.List.Sorted as sorting
use Rattle.ring_machine.specs.Common.{Feature, add_number, numbers, are_distinct}
use Rattle.ring_machine.proofs.Common.{In, filter-in, in-map, contains_in, in_contains, in-filter}
use Rattle.ring_machine.proofs.Common.{in_any, any_in, in_mapped, in_at, in_recursion, in_permuted, none_new, none_lost}
use Rattle.point_queries.specs.Common.{Rises, IsSorted}

-- ---- one list for the same numbers

first_same : (n m : ℕ) (ns ms : List ℕ) → Rises (n ∷ ns) → Rises (m ∷ ms) → In n (m ∷ ms) → In m (n ∷ ns) → n ≡ m
first_same n m ns ms h k (inl e) j = sym e
first_same n m ns ms h k (inr i) (inl e) = e
first_same n m ns ms h k (inr i) (inr j) =
    absurd (omega (arith, in_recursion (λ z. m < z) ms n k.0 i, in_recursion (λ z. n < z) ns m h.0 j))

rest_in : (n m : ℕ) (ns ms : List ℕ) → n ≡ m → AllByRecursion (λ z. n < z) ns → (a : ℕ) → In a ns → In a (m ∷ ms) → In a ms
rest_in n m ns ms same h a i (inl e) = absurd (omega (arith, in_recursion (λ z. n < z) ns a h i, e, same))
rest_in n m ns ms same h a i (inr j) = j

pub same_rises : (ns ms : List ℕ) → Rises ns → Rises ms → ((a : ℕ) → In a ns → In a ms)
    → ((a : ℕ) → In a ms → In a ns) → ns ≡ ms
same_rises [] [] h k f g = refl
same_rises [] (m ∷ ms) h k f g = absurd (g m (inl refl))
same_rises (n ∷ ns) [] h k f g = absurd (f n (inl refl))
same_rises (n ∷ ns) (m ∷ ms) h k f g =
    let same = first_same n m ns ms h k (f n (inl refl)) (g m (inl refl)) in
    ap₂ (λ z zs. z ∷ zs) same
    (same_rises ns ms h.1 k.1 (λ a i. rest_in n m ns ms same h.0 a i (f a (inr i))) (λ a i. rest_in m n ms ns (sym same) k.0 a i (g a (inr i))))

-- ---- sorted numbers

ties : (n m : ℕ) → nat_eq n m ≡ eq_by_cmp nat_cmp n m
ties n m = grind (arith, nat_tests)

same_by : (n m : ℕ) → nat_eq n m ≡ true → n ≡ m
same_by n m e = (Decides-eqb n m).0 e

less : (n m : ℕ) → nat_cmp n m ≡ Less → n < m
less n m e = grind (arith, nat_tests)

all_less : (n : ℕ) (ns : List ℕ) → AllByRecursion (λ m. nat_cmp n m ≡ Less) ns → AllByRecursion (λ m. n < m) ns
all_less n [] h = tt
all_less n (m ∷ ns) h = (less n m h.0, all_less n ns h.1)

rise : (ns : List ℕ) → IsStrictlySortedBy nat_cmp ns → Rises ns
unfolding IsStrictlySortedBy
rise [] h = tt
rise (n ∷ ns) h = (all_less n ns h.0, rise ns h.1)

pub numbers_sorted : (ns sorted once : List ℕ) → IsPermutation ns sorted → sorting.IsSorted nat_cmp sorted
    → IsFiltered (DiffersFromLast nat_eq) [] sorted once → IsSorted ns once
numbers_sorted ns sorted once permutation ascending filtered =
    subst (IsSorted ns) (sym (dedup_is nat_eq sorted once filtered)) (record {
      rises = rise (dedup nat_eq sorted) (IsStrictlySortedBy-dedup nat_cmp_total ties sorted ascending);
      same = λ m. (
        λ c. in_contains ns m (in_permuted ns sorted permutation m (none_new nat_eq same_by sorted m (contains_in (dedup nat_eq sorted) m c))),
        λ c. in_contains (dedup nat_eq sorted) m (none_lost nat_eq same_by sorted m (in_permuted sorted ns (IsPermutation-sym ns sorted permutation) m (contains_in ns m c))),
      );
    })

-- ---- the numbers of features

all_with : (P : ℕ → Type 0) (n : ℕ) (ms : List ℕ) → P n → AllByRecursion P ms → AllByRecursion P (add_number n ms)
all_with P n [] h k = (h, tt)
all_with P n (m ∷ ms) h k = grind (arith, all_with P n ms h k.1)

all_beyond : (n m : ℕ) (ms : List ℕ) → n < m → AllByRecursion (λ z. m < z) ms → AllByRecursion (λ z. n < z) ms
all_beyond n m [] l h = tt
all_beyond n m (k ∷ ms) l h = (omega (arith, l, h.0), all_beyond n m ms l h.1)

rises_with : (n : ℕ) (ms : List ℕ) → (In n ms → ⊥) → Rises ms → Rises (add_number n ms)
rises_with n [] new h = (tt, tt)
rises_with n (m ∷ ms) new h = by (nat_le n m) refl (rises_with n ms (λ i. new (inr i)) h.1)
  where
    differ : m ≢ n
    differ e = new (inl e)

    by : (b : Bool) → nat_le n m ≡ b → Rises (add_number n ms) → Rises (cond b (n ∷ m ∷ ms) (m ∷ add_number n ms))
    by true e rest =
        let f = differ in
        let l : n < m = grind (arith, nat_tests) in
        ((l, all_beyond n m ms l h.0), h)
    by false e rest =
        let l : m < n = grind (arith, nat_tests) in
        (all_with (λ z. m < z) n ms l h.0, rest)

in_with : (n : ℕ) (ms : List ℕ) (a : ℕ) → In a (add_number n ms) → (n ≡ a) ⊎ In a ms
in_with n [] a i = i
in_with n (m ∷ ms) a i = grind (arith, in_with n ms a)

with_in : (n : ℕ) (ms : List ℕ) (a : ℕ) → (n ≡ a) ⊎ In a ms → In a (add_number n ms)
with_in n [] a i = i
with_in n (m ∷ ms) a i = grind (arith, with_in n ms a)

abbrev added : List ℕ → Feature → List ℕ
added ns f = add_number f.number ns

in_fold : (fs : List Feature) (ns : List ℕ) (a : ℕ) → In a (fold added ns fs)
    → In a ns ⊎ ((g : Feature) × In g fs × (g.number ≡ a))
in_fold [] ns a i = inl i
in_fold (f ∷ fs) ns a i = elim (in_fold fs (added ns f) a i) [
  | inl j ↦ elim (in_with f.number ns a j) [ inl e ↦ inr (f, inl refl, e) | inr k ↦ inl k ]
  | inr h ↦ inr (h.0, inr h.1, h.2)
]

fold_in : (fs : List Feature) (ns : List ℕ) (a : ℕ) → In a ns → In a (fold added ns fs)
fold_in [] ns a i = i
fold_in (f ∷ fs) ns a i = fold_in fs (added ns f) a (with_in f.number ns a (inr i))

each_in : (fs : List Feature) (ns : List ℕ) (g : Feature) → In g fs → In g.number (fold added ns fs)
each_in [] ns g i = absurd i
each_in (f ∷ fs) ns g (inl e) = fold_in fs (added ns f) g.number (with_in f.number ns g.number (inl (ap (λ z. z.number) e)))
each_in (f ∷ fs) ns g (inr i) = each_in fs (added ns f) g i

-- each feature has a number of its own
abbrev Apart : List Feature → Type 0
Apart [] = Unit {0}
Apart (f ∷ fs) = ((g : Feature) → In g fs → g.number ≢ f.number) × Apart fs

apart : (fs : List Feature) → are_distinct (map (λ f. f.number) fs) ≡ true → Apart fs
apart [] d = tt
apart (f ∷ fs) d =
    let b = and_parts (not (list_any (λ m. m == f.number) (map (λ f. f.number) fs))) (are_distinct (map (λ f. f.number) fs)) d in
    (λ g i e. false≢true (sym (not-true _ b.0) ∙ in_any (λ m. m == f.number) g.number (map (λ f. f.number) fs) (in-map (λ f. f.number) g fs i) ((Decides-eqb g.number f.number).1 e)), apart fs b.1)

apart_among : (test : Feature → Bool) (fs : List Feature) → Apart fs → Apart (filter test fs)
apart_among test [] h = tt
apart_among test (f ∷ fs) h = by (test f) (apart_among test fs h.1)
  where
    by : (b : Bool) → Apart (filter test fs) → Apart (cond b (f ∷ filter test fs) (filter test fs))
    by true rest = (λ g i. h.0 g (in-filter test g fs i).0, rest)
    by false rest = rest

rises_fold : (fs : List Feature) (ns : List ℕ) → Apart fs → ((g : Feature) → In g fs → In g.number ns → ⊥)
    → Rises ns → Rises (fold added ns fs)
rises_fold [] ns d new h = h
rises_fold (f ∷ fs) ns d new h =
    rises_fold fs (added ns f) d.1
    (λ g i j. elim (in_with f.number ns g.number j) [ inl e ↦ d.0 g i (sym e) | inr k ↦ new g (inr i) k ])
    (rises_with f.number ns (λ i. new f (inl refl) i) h)

-- the numbers of features that have numbers of their own
pub numbers_rise : (test : Feature → Bool) (fs : List Feature) → are_distinct (map (λ f. f.number) fs) ≡ true
    → Rises (numbers (filter test fs))
numbers_rise test fs d = rises_fold (filter test fs) [] (apart_among test fs (apart fs d)) (λ g i j. j) tt

-- an ascending list with the numbers of the features that pass, and no others
numbers_are : (test : Feature → Bool) (fs : List Feature) (ns : List ℕ)
    → are_distinct (map (λ f. f.number) fs) ≡ true → Rises ns
    → ((m : ℕ) → In m ns → (g : Feature) × In g fs × (test g ≡ true) × (g.number ≡ m))
    → ((g : Feature) → In g fs → test g ≡ true → In g.number ns)
    → ns ≡ numbers (filter test fs)
numbers_are test fs ns d h from to =
    same_rises ns (numbers (filter test fs)) h (numbers_rise test fs d)
    (λ m i. let g = from m i in
    subst (λ z. In z (numbers (filter test fs))) g.3 (each_in (filter test fs) [] g.0 (filter-in test g.0 fs g.1 g.2)))
    (λ m i. elim (in_fold (filter test fs) [] m i) [
      | inl j ↦ absurd j
      | inr g ↦ let k = in-filter test g.0 fs g.1 in subst (λ z. In z ns) g.2 (to g.0 k.0 k.1)
    ])

-- the same of numbers that were found, sorted, where each is that of a feature that passes
pub numbers_found : {X : Type 0} (number : X → ℕ) (xs : List X) (test : Feature → Bool) (fs : List Feature) (found sorted : List ℕ)
    → are_distinct (map (λ f. f.number) fs) ≡ true → found ≡ map number xs → IsSorted found sorted
    → ((x : X) → In x xs → (g : Feature) × In g fs × (test g ≡ true) × (g.number ≡ number x))
    → ((g : Feature) → In g fs → test g ≡ true → (x : X) × In x xs × (number x ≡ g.number))
    → sorted ≡ numbers (filter test fs)
numbers_found number xs test fs found sorted distinct e s from to =
    numbers_are test fs sorted distinct s.rises
    (λ m i.
    let x = in_mapped number m xs (subst (In m) e (contains_in found m ((s.same m).0 (in_contains sorted m i)))) in
    let g = from x.0 x.1 in
    (g.0, g.1, g.2, g.3 ∙ x.2))
    (λ g i h.
    let x = to g i h in
    let among : In g.number found = subst (In g.number) (sym e) (subst (λ n. In n (map number xs)) x.2 (in-map number x.0 xs x.1)) in
    contains_in sorted g.number ((s.same g.number).1 (in_contains found g.number among)))

pub in_numbers : (fs : List Feature) (m : ℕ) → In m (numbers fs) → (g : Feature) × In g fs × (g.number ≡ m)
in_numbers fs m i = elim (in_fold fs [] m i) [
  | inl j ↦ absurd j
  | inr g ↦ g
]

pub numbers_have : (fs : List Feature) (g : Feature) → In g fs → In g.number (numbers fs)
numbers_have fs g i = each_in fs [] g i

-- ---- a search among them

rises_far : (ns : List ℕ) → Rises ns → (i j : ℕ) → i ≤ j → j < length ns → get_or ns i 0 ≤ get_or ns j 0
rises_far [] h i j l k = absurd (omega arith)
rises_far (n ∷ ns) h zero zero l k = omega arith
rises_far (n ∷ ns) h zero (suc j) l k =
    omega (arith, in_recursion (λ z. n < z) ns (get_or ns j 0) h.0 (in_at ns j 0 (omega arith)))
rises_far (n ∷ ns) h (suc i) zero l k = absurd (omega arith)
rises_far (n ∷ ns) h (suc i) (suc j) l k = rises_far ns h.1 i j (omega arith) (omega arith)

at_index : (ns : List ℕ) (n : ℕ) → In n ns → (k : ℕ) × (k < length ns) × (get_or ns k 0 ≡ n)
at_index [] n i = absurd i
at_index (m ∷ ns) n (inl e) = (0, omega arith, e)
at_index (m ∷ ns) n (inr i) = let k = at_index ns n i in (suc k.0, omega (arith, k.1), k.2)

abbrev Found : List ℕ → ℕ → Result ℕ ℕ → Type 0
Found ns n r = MatchResult r (λ i. (i < length ns) × (get_or ns i 0 ≡ n)) (λ i. (i ≤ length ns) × ((k : ℕ) → k < i → get_or ns k 0 < n) × ((k : ℕ) → i ≤ k → k < length ns → n < get_or ns k 0))

among_by : (ns : List ℕ) (n : ℕ) (r : Result ℕ ℕ) → Found ns n r → is_ok r ≡ list_any (λ m. m == n) ns
among_by ns n (Ok i) h = sym (in_any (λ m. m == n) (get_or ns i 0) ns (in_at ns i 0 h.0) ((Decides-eqb (get_or ns i 0) n).1 h.1))
among_by ns n (Err i) h = sym (by (list_any (λ m. m == n) ns) refl)
  where
    by : (b : Bool) → list_any (λ m. m == n) ns ≡ b → b ≡ false
    by false e = refl
    by true e =
        let m = any_in (λ m. m == n) ns e in
        let same : m.0 ≡ n = (Decides-eqb m.0 n).0 m.2 in
        let k = at_index ns m.0 m.1 in
        elim (cases_lt k.0 i) [
          | inl u ↦ absurd (omega (arith, h.1 k.0 u, k.2, same))
          | inr u ↦ absurd (omega (arith, h.2 k.0 u k.1, k.2, same))
        ]

pub among : (ns : List ℕ) (n : ℕ) (r : Result ℕ ℕ) → Rises ns → IsBinarySearchResult (λ y. nat_cmp y n) ns r
    → is_ok r ≡ list_any (λ m. m == n) ns
among ns n r h s = among_by ns n r (searched ns n r s (rises_far ns h))
