-- Lists of numbers in which none stands twice.
use Rattle.kit_words.proofs.Common.{◌≡◌, ◌≢◌, ℕ, ◌≤◌, ◌+◌, true, false, not, ◌||◌, refl, sym, ap, ◌∙◌, subst, arith}
use Rattle.kit_words.proofs.Common.{◌&&◌, List, [], ◌∷◌, ◌++◌, length, Contains, ◌⊎◌, inl, inr, ◌==◌, list_any}
use Rattle.kit_words.proofs.Common.{AllByRecursion, false≢true, cases_eq, or_left, or_right, or_cases, or_parts}
use Rattle.kit_words.proofs.Common.{both_ways, cond_both, and_parts, Decides-eqb, nat_tests, same_from_decides}
use Rattle.kit_words.proofs.Common.{Contains-append_left, Contains-push, Contains-push_cases, All-contains}
use Rattle.kit_words.proofs.Common.{All-from_recursion}
use Rattle.slab.proofs.SlabLemmas.{Contains-cons, Contains-cons_cases}
use Rattle.arc_tables.specs.Common.{AllDifferent, including, without}

pub none_contained : (k : ℕ) (xs : List ℕ) → xs ≡ [] → Contains xs k → ⊥
none_contained k xs e m = absurd (omega (arith, (subst (λ z. Contains z k) e m).1))

-- ---- without a number

pub contained_any : (r : ℕ) (xs : List ℕ) → Contains xs r → list_any (λ k. k == r) xs ≡ true
contained_any r [] m = absurd (none_contained r [] refl m)
contained_any r (x ∷ xs) m = elim (Contains-cons_cases x r xs m) [ inl e ↦ or_left (x == r) _ ((Decides-eqb x r).1 e) | inr y ↦ or_right (x == r) _ (contained_any r xs y) ]

pub any_contained : (r : ℕ) (xs : List ℕ) → list_any (λ k. k == r) xs ≡ true → Contains xs r
any_contained r [] h = absurd (false≢true h)
any_contained r (x ∷ xs) h = elim (or_cases (x == r) _ h) [ inl e ↦ (0, omega arith, (Decides-eqb x r).0 e) | inr y ↦ Contains-cons x r xs (any_contained r xs y) ]

pub any_without : (r k : ℕ) (xs : List ℕ) → list_any (λ x. x == k) (without r xs) ≡ (list_any (λ x. x == k) xs && not (r == k))
any_without r k [] = refl
any_without r k (x ∷ xs) = grind (arith, nat_tests, any_without r k xs)

pub in_without : (r : ℕ) (xs : List ℕ) (k : ℕ) → k ≢ r → Contains xs k → Contains (without r xs) k
in_without r xs k ne m = any_contained k (without r xs) (grind (arith, nat_tests, any_without r k xs, contained_any k xs m))

pub from_without : (r : ℕ) (xs : List ℕ) (k : ℕ) → Contains (without r xs) k → Contains xs k × (k ≢ r)
from_without r xs k m =
    let both = and_parts _ _ (sym (any_without r k xs) ∙ contained_any k (without r xs) m) in
    (any_contained k xs both.0, λ e. false≢true (ap not (sym ((Decides-eqb r k).1 (sym e))) ∙ both.1))

pub without_absent : (r : ℕ) (xs : List ℕ) → (Contains xs r → ⊥) → without r xs ≡ xs
without_absent r [] h = refl
without_absent r (x ∷ xs) h =
    let f : x ≢ r = λ e. h (0, omega arith, e) in
    grind (arith, nat_tests, without_absent r xs (λ m. h (Contains-cons x r xs m)))

pub without_twice : (r : ℕ) (xs : List ℕ) → without r (without r xs) ≡ without r xs
without_twice r xs = without_absent r (without r xs) (λ m. both_ways _ (grind (arith, nat_tests, any_without r r xs)) (contained_any r (without r xs) m))

all_without : (P : ℕ → Type 0) (r : ℕ) (xs : List ℕ) → AllByRecursion P xs → AllByRecursion P (without r xs)
all_without P r [] h = tt
all_without P r (x ∷ xs) h = grind (arith, all_without P r xs h.1)

pub different_without : (r : ℕ) (xs : List ℕ) → AllDifferent xs → AllDifferent (without r xs)
different_without r [] h = tt
different_without r (x ∷ xs) h = grind (arith, different_without r xs h.1, all_without (λ y. y ≢ x) r xs h.0)

absent : (x : ℕ) (xs : List ℕ) → AllByRecursion (λ y. y ≢ x) xs → Contains xs x → ⊥
absent x xs h m = All-contains (λ y. y ≢ x) xs x (All-from_recursion (λ y. y ≢ x) xs h) m refl

pub length-without : (r : ℕ) (xs : List ℕ) → AllDifferent xs → Contains xs r → length (without r xs) + 1 ≡ length xs
length-without r [] d m = absurd (none_contained r [] refl m)
length-without r (x ∷ xs) d m =
    let same : x ≡ r → length (without r xs) ≡ length xs = λ e. ap length (without_absent r xs (λ k. absent x xs d.0 (subst (Contains xs) (sym e) k))) in
    let later : x ≢ r → Contains xs r = λ f. elim (Contains-cons_cases x r xs m) [ inl e ↦ absurd (f e) | inr y ↦ y ] in
    grind (arith, nat_tests, cases_eq x r, same, later, length-without r xs d.1)

-- ---- with a number

none_any : (r : ℕ) (xs : List ℕ) → list_any (λ k. k == r) xs ≡ false → AllByRecursion (λ y. y ≢ r) xs
none_any r [] h = tt
none_any r (x ∷ xs) h = let k = or_parts (x == r) _ h in ((λ e. both_ways _ k.0 ((Decides-eqb x r).1 e)), none_any r xs k.1)

all_push : (P : ℕ → Type 0) (r : ℕ) (xs : List ℕ) → AllByRecursion P xs → P r → AllByRecursion P (xs ++ r ∷ [])
all_push P r [] h k = (k, tt)
all_push P r (x ∷ xs) h k = (h.0, all_push P r xs h.1 k)

different_push : (r : ℕ) (xs : List ℕ) → AllDifferent xs → AllByRecursion (λ y. y ≢ r) xs → AllDifferent (xs ++ r ∷ [])
different_push r [] d h = (tt, tt)
different_push r (x ∷ xs) d h = (all_push (λ y. y ≢ x) r xs d.0 (λ e. h.0 (sym e)), different_push r xs d.1 h.1)

pub different_including : (r : ℕ) (xs : List ℕ) → AllDifferent xs → AllDifferent (including r xs)
different_including r xs d = cond_both (list_any (λ k. k == r) xs) xs (xs ++ r ∷ []) AllDifferent (λ e. d) (λ e. different_push r xs d (none_any r xs e))

pub in_including : (r : ℕ) (xs : List ℕ) (k : ℕ) → Contains xs k → Contains (including r xs) k
in_including r xs k m = cond_both (list_any (λ k. k == r) xs) xs (xs ++ r ∷ []) (λ z. Contains z k) (λ e. m) (λ e. Contains-append_left xs (r ∷ []) k m)

pub itself_including : (r : ℕ) (xs : List ℕ) → Contains (including r xs) r
itself_including r xs = cond_both (list_any (λ k. k == r) xs) xs (xs ++ r ∷ []) (λ z. Contains z r) (any_contained r xs) (λ e. Contains-push xs r)

pub from_including : (r : ℕ) (xs : List ℕ) (k : ℕ) → Contains (including r xs) k → Contains xs k ⊎ (r ≡ k)
from_including r xs k = cond_both (list_any (λ k. k == r) xs) xs (xs ++ r ∷ []) (λ z. Contains z k → Contains xs k ⊎ (r ≡ k)) (λ e m. inl m) (λ e. Contains-push_cases xs r k)

pub any_including : (r k : ℕ) (xs : List ℕ) → list_any (λ x. x == k) (including r xs) ≡ (list_any (λ x. x == k) xs || r == k)
any_including r k xs = same_from_decides {P = Contains xs k ⊎ (r ≡ k)} _ _
    ((λ h. from_including r xs k (any_contained k (including r xs) h)), (λ h. contained_any k (including r xs) (elim h [ inl m ↦ in_including r xs k m | inr e ↦ subst (Contains (including r xs)) e (itself_including r xs) ])))
    ((λ h. elim (or_cases _ _ h) [ inl m ↦ inl (any_contained k xs m) | inr e ↦ inr ((Decides-eqb r k).0 e) ]), (λ h. elim h [ inl m ↦ or_left _ _ (contained_any k xs m) | inr e ↦ or_right (list_any (λ x. x == k) xs) _ ((Decides-eqb r k).1 e) ]))

pub some_contained : (k : ℕ) (xs : List ℕ) → Contains xs k → 1 ≤ length xs
some_contained k xs m = let l = m.1 in omega arith
