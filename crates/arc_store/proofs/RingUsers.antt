-- How many rings have a segment, counted over the rings that are kept.
use Rattle.kit_words.proofs.Common.{◌≡◌, ◌≢◌, ◌+◌, ℕ, Bool, true, false, refl, sym, ap, ap₂, ◌∙◌, cond, List, [], ◌∷◌}
use Rattle.kit_words.proofs.Common.{map, length, ◌||◌, ◌&&◌, inl, inr, arith, Some, None, is_some, not, ◌==◌, unwrap_or}
use Rattle.kit_words.proofs.Common.{T, filter, below_all, nat_cmp, is_lt, is_eq, eq_by_cmp, Ordering, Less, Equal}
use Rattle.kit_words.proofs.Common.{Greater, false≢true, ne_eqb, Decides-eqb, nat_tests, sum_by-cons, ℕ_discrete}
use Rattle.kit_words.proofs.Common.{and_parts, not-true}
use Rattle.std.specs.Prelude.{count_by}
use Rattle.std.specs.FinMap as table
use Rattle.ring_machine.specs.Common.{rings, are_distinct}
use Rattle.ring_machine.proofs.Common.{In, filter-in, contains_in, in_contains, in_any, in-filter}
use Rattle.arc_tables.specs.Common.{one}
use Rattle.arc_tables.specs.Rings as shared
use Rattle.feature_exchange.specs.Common.{IsWhole, Stored}
use Rattle.ring_store.proofs.Common.{has_key, first_of_two, second_of_two}
use Rattle.arc_store.proofs.Numbers.{users_of}

-- ---- numbers but for one

abbrev but : ℕ → List ℕ → List ℕ
but k rs = filter (λ r. not (r == k)) rs

same_key : (k : ℕ) → (k == k) ≡ true
same_key k = (Decides-eqb k k).1 refl

-- a number that is not there is not that of one there
absent : (k r : ℕ) (rs : List ℕ) → has_key k rs ≡ false → In r rs → r ≢ k
absent k r rs h i e = false≢true (sym h ∙ in_any (λ m. m == k) r rs i (ap (λ z. z == k) e ∙ same_key k))

-- the numbers are kept where none is left out
kept_all : (k : ℕ) (rs : List ℕ) → ((r : ℕ) → In r rs → r ≢ k) → but k rs ≡ rs
kept_all k [] h = refl
kept_all k (r ∷ rs) h =
    ap (λ b. cond (not b) (r ∷ but k rs) (but k rs)) (ne_eqb r k (h r (inl refl)))
    ∙ ap (λ z. r ∷ z) (kept_all k rs (λ x i. h x (inr i)))

-- what passes, with and without one that is there once
one_out : (test : ℕ → Bool) (k : ℕ) (rs : List ℕ) → are_distinct rs ≡ true → In k rs
    → length (filter test rs) ≡ one (test k) + length (filter test (but k rs))
one_out test k [] d i = absurd i
one_out test k (r ∷ rs) d i =
    by (ℕ_discrete r k) (and_parts (not (has_key r rs)) (are_distinct rs) d).0 (one_out test k rs (and_parts (not (has_key r rs)) (are_distinct rs) d).1)
  where
    more : (b : Bool) (n : ℕ) (xs : List ℕ) → length xs ≡ n → length (cond b (r ∷ xs) xs) ≡ one b + n
    more b n xs e = grind arith

    by : Dec (r ≡ k) → not (has_key r rs) ≡ true
        → (In k rs → length (filter test rs) ≡ one (test k) + length (filter test (but k rs)))
        → length (filter test (r ∷ rs)) ≡ one (test k) + length (filter test (but k (r ∷ rs)))
    by (yes e) n rest =
        more (test r) (length (filter test rs)) (filter test rs) refl
        ∙ ap₂ (λ y z. one (test y) + length (filter test z)) e
        (sym (kept_all k rs (λ x j f. absent r x rs (not-true (has_key r rs) n) j (f ∙ sym e)))
        ∙ sym (ap (λ b. cond (not b) (r ∷ but k rs) (but k rs)) (ap (λ z. z == k) e ∙ same_key k)))
    by (no f) n rest =
        let there : In k rs = elim i [ inl e ↦ absurd (f e) | inr j ↦ j ] in
        let is : length (filter test (but k (r ∷ rs))) ≡ one (test r) + length (filter test (but k rs)) =
        ap (λ b. length (filter test (cond (not b) (r ∷ but k rs) (but k rs)))) (ne_eqb r k f)
        ∙ more (test r) (length (filter test (but k rs))) (filter test (but k rs)) refl in
        omega (arith, more (test r) (length (filter test rs)) (filter test rs) refl, rest there, is)

distinct_but : (k : ℕ) (rs : List ℕ) → are_distinct rs ≡ true → are_distinct (but k rs) ≡ true
distinct_but k [] d = refl
distinct_but k (r ∷ rs) d =
    by (r == k) (and_parts (not (has_key r rs)) (are_distinct rs) d).0 (distinct_but k rs (and_parts (not (has_key r rs)) (are_distinct rs) d).1)
  where
    lacks : (xs : List ℕ) → ((x : ℕ) → In x xs → x ≢ r) → has_key r xs ≡ false
    lacks [] h = refl
    lacks (x ∷ xs) h = ap₂ (λ y z. y || z) (ne_eqb x r (h x (inl refl))) (lacks xs (λ y i. h y (inr i)))

    by : (b : Bool) → not (has_key r rs) ≡ true → are_distinct (but k rs) ≡ true
        → are_distinct (cond (not b) (r ∷ but k rs) (but k rs)) ≡ true
    by true n e = e
    by false n e =
        ap₂ (λ y z. not y && z) (lacks (but k rs) (λ x i. absent r x rs (not-true (has_key r rs) n) (in-filter (λ z. not (z == k)) x rs i).0)) e

-- two tests that agree on a list pass as many
alike : (f g : ℕ → Bool) (rs : List ℕ) → ((r : ℕ) → In r rs → f r ≡ g r)
    → length (filter f rs) ≡ length (filter g rs)
alike f g [] h = refl
alike f g (r ∷ rs) h =
    grind (arith, h r (inl refl), alike f g rs (λ x i. h x (inr i)))

-- ---- entries in order

not_tied : (o : Ordering) → T (is_lt o) → is_eq o ≡ false
not_tied Less p = refl
not_tied Equal p = absurd p
not_tied Greater p = absurd p

tied : (r k : ℕ) → r ≡ k → eq_by_cmp nat_cmp r k ≡ true
tied r k e = grind (arith, nat_tests)

untied : (r k : ℕ) → r ≢ k → eq_by_cmp nat_cmp r k ≡ false
untied r k f = grind (arith, nat_tests)

module _ {X : Type 0} where
  -- a key stands once
  not_later : (k : ℕ) (es : List (ℕ × X)) → T (below_all nat_cmp k es) → table.find nat_cmp k es ≡ None
  not_later k [] h = refl
  not_later k (e ∷ es) h =
      ap (λ b. cond b (Some e.1) (table.find nat_cmp k es)) (not_tied (nat_cmp k e.0) (first_of_two (is_lt (nat_cmp k e.0)) (below_all nat_cmp k es) h))
      ∙ not_later k es (second_of_two (is_lt (nat_cmp k e.0)) (below_all nat_cmp k es) h)

  -- as many values pass as numbers in a list that has just the keys, each once
  count_keys : (test : X → Bool) (d : X) (es : List (ℕ × X)) → T (table.is_sorted nat_cmp es)
      → (rs : List ℕ) → are_distinct rs ≡ true
      → ((r : ℕ) → In r rs → is_some (table.find nat_cmp r es) ≡ true)
      → ((r : ℕ) → is_some (table.find nat_cmp r es) ≡ true → In r rs)
      → length (filter (λ r. test (unwrap_or (table.find nat_cmp r es) d)) rs) ≡ count_by test (map (λ e. e.1) es)
  count_keys test d [] s [] u from to = refl
  count_keys test d [] s (r ∷ rs) u from to = absurd (false≢true (from r (inl refl)))
  count_keys test d (e ∷ es) s rs u from to =
      let first : table.find nat_cmp e.0 (e ∷ es) ≡ Some e.1 = ap (λ b. cond b (Some e.1) (table.find nat_cmp e.0 es)) (tied e.0 e.0 refl) in
      let there : In e.0 rs = to e.0 (ap is_some first) in
      let rest = count_keys test d es (second_of_two (below_all nat_cmp e.0 es) (table.is_sorted nat_cmp es) s) (but e.0 rs) (distinct_but e.0 rs u) keep back in
      let out = one_out (λ r. test (unwrap_or (table.find nat_cmp r (e ∷ es)) d)) e.0 rs u there in
      let same = alike (λ r. test (unwrap_or (table.find nat_cmp r (e ∷ es)) d)) (λ r. test (unwrap_or (table.find nat_cmp r es) d)) (but e.0 rs) (λ r i. ap (λ o. test (unwrap_or o d)) (later r (apart r i))) in
      out
      ∙ ap₂ (λ y z. one y + z) (ap (λ o. test (unwrap_or o d)) first) (same ∙ rest)
      ∙ sym (sum_by-cons (λ x. cond (test x) 1 0) e.1 (map (λ f. f.1) es))
    where
      later : (r : ℕ) → r ≢ e.0 → table.find nat_cmp r (e ∷ es) ≡ table.find nat_cmp r es
      later r f = ap (λ b. cond b (Some e.1) (table.find nat_cmp r es)) (untied r e.0 f)

      apart : (r : ℕ) → In r (but e.0 rs) → r ≢ e.0
      apart r i f = false≢true (sym (ap not (ap (λ z. z == e.0) f ∙ same_key e.0)) ∙ (in-filter (λ z. not (z == e.0)) r rs i).1)

      keep : (r : ℕ) → In r (but e.0 rs) → is_some (table.find nat_cmp r es) ≡ true
      keep r i = ap is_some (sym (later r (apart r i))) ∙ from r (in-filter (λ z. not (z == e.0)) r rs i).0

      differs : (r : ℕ) → is_some (table.find nat_cmp r es) ≡ true → r ≢ e.0
      differs r h f = false≢true (sym (ap is_some (not_later e.0 es (first_of_two (below_all nat_cmp e.0 es) (table.is_sorted nat_cmp es) s))) ∙ ap (λ z. is_some (table.find nat_cmp z es)) (sym f) ∙ h)

      back : (r : ℕ) → is_some (table.find nat_cmp r es) ≡ true → In r (but e.0 rs)
      back r h = filter-in (λ z. not (z == e.0)) r rs (to r (ap is_some (later r (differs r h)) ∙ h)) (ap not (ne_eqb r e.0 (differs r h)))

-- as many rings have the segment by their numbers as among all that are kept
pub users_same : (s : Stored) → IsWhole s → (x y : ℕ)
    → length (users_of s x y) ≡ shared.users_of s.rings x y
users_same s w x y =
    alike (λ r. shared.has_segment x y (unwrap_or (table.get s.rings r) [])) (λ r. shared.has_segment x y (unwrap_or (table.find nat_cmp r (table.entries s.rings)) [])) (rings s.frame) (λ r i. ap (λ o. shared.has_segment x y (unwrap_or o [])) (table.get-entries s.rings r))
    ∙ count_keys (shared.has_segment x y) [] (table.entries s.rings) (table.entries_sorted s.rings) (rings s.frame) w.once
    (λ r i. ap is_some (sym (table.get-entries s.rings r)) ∙ (w.named r).0 (in_contains (rings s.frame) r i))
    (λ r h. contains_in (rings s.frame) r ((w.named r).1 (ap is_some (table.get-entries s.rings r) ∙ h)))
