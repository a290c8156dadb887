-- Tests of lists: all elements, some element, and those that a filter keeps.
use Rattle.kit_words.proofs.Common.{◌≡◌, Bool, true, false, refl, sym, ap, ◌∙◌, List, [], list_any, list_all}
use Rattle.kit_words.proofs.Common.{false≢true}
use Rattle.ring_machine.proofs.Common.{In, all_in, in_any, any_in, same_answer, pass_all}

pub not_all : {A : Type 0} (test : A → Bool) (xs : List A) (x : A) → In x xs → test x ≡ false
    → list_all test xs ≡ false
not_all test xs x i e = by (list_all test xs) refl
  where
    by : (b : Bool) → list_all test xs ≡ b → list_all test xs ≡ false
    by false h = h
    by true h = absurd (false≢true (sym e ∙ all_in test xs x h i))

-- all elements are x, and there is one
pub all_same : {A : Type 0} (test : A → Bool) (xs : List A) (x : A) → In x xs
    → ((y : A) → In y xs → y ≡ x) → list_all test xs ≡ test x
all_same test xs x i same =
    same_answer (list_all test xs) (test x) (λ h. all_in test xs x h i)
    (λ h. pass_all test xs (λ y j. ap test (same y j) ∙ h))

pub any_same : {A : Type 0} (test : A → Bool) (xs : List A) (x : A) → In x xs
    → ((y : A) → In y xs → y ≡ x) → list_any test xs ≡ test x
any_same test xs x i same =
    same_answer (list_any test xs) (test x)
    (λ h. let k = any_in test xs h in ap test (sym (same k.0 k.1)) ∙ k.2)
    (λ h. in_any test x xs i h)
