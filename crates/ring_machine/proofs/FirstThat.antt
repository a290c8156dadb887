-- The first element that passes a test, with what stands before and after it.
use Rattle.kit_words.proofs.Common.{◌≡◌, Bool, true, false, refl, ap, ◌∙◌, List, [], ◌∷◌, ◌++◌, cond, ◌||◌, Some}
use Rattle.kit_words.proofs.Common.{list_any, find, false≢true, or_parts}
use Rattle.ring_machine.specs.Common.{change_first, first_that}

pub record FirstThat {A : Type 0} (test : A → Bool) (xs : List A) : Type 0 where
  pub before : List A
  pub it : A
  pub after : List A
  pub is : xs ≡ before ++ it ∷ after
  pub others : list_any test before ≡ false
  pub passes : test it ≡ true

pub first_passing : {A : Type 0} (test : A → Bool) (xs : List A) → list_any test xs ≡ true
    → FirstThat test xs
first_passing test [] h = absurd (false≢true h)
first_passing {A} test (x ∷ xs) h = by (test x) refl h (first_passing test xs)
  where
    by : (b : Bool) → test x ≡ b → (b || list_any test xs) ≡ true
        → (list_any test xs ≡ true → FirstThat test xs) → FirstThat test (x ∷ xs)
    by true e k rest = record { before = []; it = x; after = xs; is = refl; others = refl; passes = e }
    by false e k rest =
        let r = rest k in
        record {
          before = x ∷ r.before;
          it = r.it;
          after = r.after;
          is = ap (λ z. x ∷ z) r.is;
          others = ap (λ b. b || list_any test r.before) e ∙ r.others;
          passes = r.passes;
        }

module _ {A : Type 0} (test : A → Bool) where
  found : (us : List A) (x : A) (vs : List A) → list_any test us ≡ false → test x ≡ true
      → first_that test (us ++ x ∷ vs) ≡ x ∷ []
  found [] x vs h k = ap (λ b. cond b (x ∷ []) (first_that test vs)) k
  found (u ∷ us) x vs h k =
      let h' = or_parts (test u) (list_any test us) h in
      ap (λ b. cond b (u ∷ []) (first_that test (us ++ x ∷ vs))) h'.0 ∙ found us x vs h'.1 k

  pub find_it : (us : List A) (x : A) (vs : List A) → list_any test us ≡ false → test x ≡ true
      → find test (us ++ x ∷ vs) ≡ Some x
  find_it [] x vs h k = ap (λ b. cond b (Some x) (find test vs)) k
  find_it (u ∷ us) x vs h k =
      let h' = or_parts (test u) (list_any test us) h in
      ap (λ b. cond b (Some u) (find test (us ++ x ∷ vs))) h'.0 ∙ find_it us x vs h'.1 k

  changed : (g : A → A) (us : List A) (x : A) (vs : List A) → list_any test us ≡ false → test x ≡ true
      → change_first test g (us ++ x ∷ vs) ≡ us ++ g x ∷ vs
  changed g [] x vs h k = ap (λ b. cond b (g x ∷ vs) (x ∷ change_first test g vs)) k
  changed g (u ∷ us) x vs h k =
      let h' = or_parts (test u) (list_any test us) h in
      ap (λ b. cond b (g u ∷ us ++ x ∷ vs) (u ∷ change_first test g (us ++ x ∷ vs))) h'.0
      ∙ ap (λ z. u ∷ z) (changed g us x vs h'.1 k)

  module _ (xs : List A) (f : FirstThat test xs) where
    pub first_that-is : first_that test xs ≡ f.it ∷ []
    first_that-is = ap (first_that test) f.is ∙ found f.before f.it f.after f.others f.passes

    pub change_first-is : (g : A → A) → change_first test g xs ≡ f.before ++ g f.it ∷ f.after
    change_first-is g = ap (change_first test g) f.is ∙ changed g f.before f.it f.after f.others f.passes
