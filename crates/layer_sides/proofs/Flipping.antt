-- Numbers that are in one of two ascending lists.
use Rattle.kit_words.proofs.Common.{◌≡◌, ℕ, ◌<◌, ◌≤◌, ◌+◌, ◌==◌, Bool, true, false, not, refl, sym, ap, ◌∙◌, subst, cond}
use Rattle.kit_words.proofs.Common.{List, [], ◌∷◌, ◌++◌, take, length, get_or, ⊎_elim, arith, Contains, filter}
use Rattle.kit_words.proofs.Common.{append-nil, filter_more, searched, eqb-true, eq-eqb, false≢true, get_or_default, is_ok, Ok, Err}
use Rattle.kit_words.proofs.Common.{Result, MatchResult, by_bool, IsStrictlySortedBy, nat_lt, ltb-true}
use Rattle.std.proofs.Common.{ltb-false}
use Rattle.std.specs.List.Sorted.{IsBinarySearchResult}
use Rattle.std.specs.Ordering.{nat_cmp}
use Rattle.std.proofs.lemmas.Map.Keys.{non_decreasing_from_sorted}
use Rattle.grid_geometry.specs.Common.{xor}
use Rattle.ring_machine.proofs.Common.{In, any_in, contains_in, filter-in, in-append, in-filter, in_any, in_contains, in_left, in_right}
use Rattle.ring_machine.proofs.Common.{same_answer}
use Rattle.layer_sides.specs.Sweep.{has_number}
use Rattle.layer_sides.specs.Under.{Ascends}

-- ---- a number in a list

pub in_has : (n : ℕ) (ns : List ℕ) → In n ns → has_number n ns ≡ true
in_has n ns h = in_any (λ m. m == n) n ns h (eq-eqb n n refl)

pub has_in : (n : ℕ) (ns : List ℕ) → has_number n ns ≡ true → In n ns
has_in n ns h = let k = any_in (λ m. m == n) ns h in subst (λ m. In m ns) (eqb-true k.0 n k.2) k.1

-- what a binary search finds of ascending numbers
pub found_has : (ns : List ℕ) (n : ℕ) (r : Result ℕ ℕ) → IsStrictlySortedBy nat_cmp ns → IsBinarySearchResult (λ y. nat_cmp y n) ns r
    → is_ok r ≡ has_number n ns
found_has ns n r sorted h = by r (searched ns n r h (λ i j l m. non_decreasing_from_sorted ns sorted i j 0 l m))
  where
    by : (r : Result ℕ ℕ)
        → MatchResult r (λ i. (i < length ns) × (get_or ns i 0 ≡ n))
        (λ i. (i ≤ length ns) × ((k : ℕ) → k < i → get_or ns k 0 < n) × ((k : ℕ) → i ≤ k → k < length ns → n < get_or ns k 0))
        → is_ok r ≡ has_number n ns
    by (Ok i) k = sym (in_has n ns (contains_in ns n (i, k.0, get_or_default ns i n 0 k.0 ∙ k.1)))
    by (Err i) k = sym (by_bool (has_number n ns) (λ e. absurd (none (in_contains ns n (has_in n ns e)))) (λ e. e))
      where
        none : Contains ns n → ⊥
        none c =
            let e : get_or ns c.0 0 ≡ n = get_or_default ns c.0 0 n c.1 ∙ c.2 in
            by_bool (nat_lt c.0 i)
            (λ l. let m = k.1 c.0 (ltb-true c.0 i l) in omega (arith, m, e))
            (λ l. let m = k.2 c.0 (ltb-false c.0 i l) c.1 in omega (arith, m, e))

-- ---- one more of those that pass

pub filter_yes : (test : ℕ → Bool) (xs : List ℕ) (i d : ℕ) → i < length xs → test (get_or xs i d) ≡ true
    → filter test (take (i + 1) xs) ≡ filter test (take i xs) ++ get_or xs i d ∷ []
filter_yes test xs i d l h =
    filter_more test xs i d l ∙ ap (λ b. filter test (take i xs) ++ cond b (get_or xs i d ∷ []) []) h

pub filter_no : (test : ℕ → Bool) (xs : List ℕ) (i d : ℕ) → i < length xs → test (get_or xs i d) ≡ false
    → filter test (take (i + 1) xs) ≡ filter test (take i xs)
filter_no test xs i d l h =
    filter_more test xs i d l ∙ ap (λ b. filter test (take i xs) ++ cond b (get_or xs i d ∷ []) []) h
    ∙ append-nil (filter test (take i xs))

-- ---- in one of two

unshared : (a b : Bool) → a ≡ true → not b ≡ true → xor b a ≡ true
unshared true false h k = refl
unshared true true h k = k
unshared false b h k = absurd (false≢true h)

-- found are the numbers of the one that are not in the other, and the other way round
pub either_has : (ns ms found : List ℕ)
    → Ascends nat_cmp (Contains (filter (λ n. not (has_number n ms)) ns ++ filter (λ n. not (has_number n ns)) ms)) found
    → (n : ℕ) → has_number n found ≡ xor (has_number n ms) (has_number n ns)
either_has ns ms found h n = same_answer (has_number n found) (xor (has_number n ms) (has_number n ns)) into from
  where
    into : has_number n found ≡ true → xor (has_number n ms) (has_number n ns) ≡ true
    into e =
        ⊎_elim
        (λ (i : In n (filter (λ n. not (has_number n ms)) ns)).
        let k = in-filter (λ n. not (has_number n ms)) n ns i in
        unshared (has_number n ns) (has_number n ms) (in_has n ns k.0) k.1)
        (λ (i : In n (filter (λ n. not (has_number n ns)) ms)).
        let k = in-filter (λ n. not (has_number n ns)) n ms i in
        swapped (has_number n ms) (has_number n ns) (in_has n ms k.0) k.1)
        (in-append n (filter (λ n. not (has_number n ms)) ns) (filter (λ n. not (has_number n ns)) ms)
        (contains_in (filter (λ n. not (has_number n ms)) ns ++ filter (λ n. not (has_number n ns)) ms) n ((h.all n).0 (in_contains found n (has_in n found e)))))
      where
        swapped : (a b : Bool) → a ≡ true → not b ≡ true → xor a b ≡ true
        swapped true false h k = refl
        swapped true true h k = k
        swapped false b h k = absurd (false≢true h)

    from : xor (has_number n ms) (has_number n ns) ≡ true → has_number n found ≡ true
    from e =
        in_has n found (contains_in found n ((h.all n).1
        (in_contains (filter (λ n. not (has_number n ms)) ns ++ filter (λ n. not (has_number n ns)) ms) n
        (there (has_number n ms) refl (has_number n ns) refl e))))
      where
        there : (a : Bool) → has_number n ms ≡ a → (b : Bool) → has_number n ns ≡ b → xor a b ≡ true
            → In n (filter (λ n. not (has_number n ms)) ns ++ filter (λ n. not (has_number n ns)) ms)
        there true p true q k = absurd (false≢true k)
        there true p false q k =
            in_right n (filter (λ n. not (has_number n ms)) ns) (filter (λ n. not (has_number n ns)) ms)
            (filter-in (λ n. not (has_number n ns)) n ms (has_in n ms p) (ap not q))
        there false p true q k =
            in_left n (filter (λ n. not (has_number n ms)) ns) (filter (λ n. not (has_number n ns)) ms)
            (filter-in (λ n. not (has_number n ms)) n ns (has_in n ns q) (ap not p))
        there false p false q k = absurd (false≢true k)
