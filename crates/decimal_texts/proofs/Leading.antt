-- Two rows of digits as one, without the zeros before them.
use Rattle.kit_words.proofs.Common.{◌≡◌, ℕ, ◌<◌, Bool, true, false, refl, ap, sym, subst, ◌∙◌, inl, inr, List, [], ◌∷◌}
use Rattle.kit_words.proofs.Common.{◌++◌, length, drop, arith, one-add, cases_Bool, cond-true, cond-false, eqb-false}
use Rattle.kit_words.proofs.Common.{ne_eqb, length-append, ◌==◌, codes, prefix_len}
use Rattle.std.proofs.lemmas.Bool.{eqb-true}
use Rattle.json_spans.specs.Common.{is_zero}
use Rattle.decimal_texts.specs.Common.{without_zeros, or_zero}

-- what is left from the first on that does not pass
pub passed : (p : ℕ → Bool) (x : ℕ) (xs : List ℕ) → p x ≡ true → drop (prefix_len p (x ∷ xs)) (x ∷ xs) ≡ drop (prefix_len p xs) xs
passed p x xs e = rw (e, one-add) refl

pub stopped : (p : ℕ → Bool) (x : ℕ) (xs : List ℕ) → p x ≡ false → drop (prefix_len p (x ∷ xs)) (x ∷ xs) ≡ x ∷ xs
stopped p x xs e = rw e refl

led : (p : ℕ → Bool) (xs ys : List ℕ) → 0 < length (drop (prefix_len p xs) xs) → drop (prefix_len p (xs ++ ys)) (xs ++ ys) ≡ drop (prefix_len p xs) xs ++ ys
led p [] ys h = absurd (omega arith)
led p (x ∷ xs) ys h =
    elim (cases_Bool (p x)) [
      | inl e ↦
          let on = subst (λ zs. 0 < length zs) (passed p x xs e) h in
          passed p x (xs ++ ys) e ∙ (led p xs ys on ∙ ap (λ zs. zs ++ ys) (sym (passed p x xs e)))
      | inr e ↦ stopped p x (xs ++ ys) e ∙ ap (λ zs. zs ++ ys) (sym (stopped p x xs e))
    ]

not_led : (p : ℕ → Bool) (xs ys : List ℕ) → length (drop (prefix_len p xs) xs) ≡ 0 → drop (prefix_len p (xs ++ ys)) (xs ++ ys) ≡ drop (prefix_len p ys) ys
not_led p [] ys h = refl
not_led p (x ∷ xs) ys h =
    elim (cases_Bool (p x)) [
      | inl e ↦ passed p x (xs ++ ys) e ∙ not_led p xs ys (ap length (sym (passed p x xs e)) ∙ h)
      | inr e ↦ absurd (omega (arith, ap length (stopped p x xs e)))
    ]

-- no zero is put in the place of digits
pub or_zero_none : (zs : List ℕ) → (length zs == 0) ≡ false → or_zero zs ≡ zs
or_zero_none zs h = cond-false (length zs == 0) (codes "0") zs h

-- ---- where the first row is us without its zeros, and the second vs

pub first_led : (xs ys us : List ℕ) → us ≡ without_zeros xs → (length us == 0) ≡ false → us ++ ys ≡ or_zero (without_zeros (xs ++ ys))
first_led xs ys us e h =
    let some : 0 < length (without_zeros xs) = omega (arith, ap length e, eqb-false (length us) 0 h) in
    let both : us ++ ys ≡ without_zeros (xs ++ ys) = ap (λ zs. zs ++ ys) e ∙ sym (led is_zero xs ys some) in
    let more : (length (us ++ ys) == 0) ≡ false = ne_eqb (length (us ++ ys)) 0 (λ z. eqb-false (length us) 0 h (omega (arith, length-append us ys, z))) in
    sym (or_zero_none (us ++ ys) more) ∙ ap or_zero both

none_led : (xs ys us vs : List ℕ) → us ≡ without_zeros xs → (length us == 0) ≡ true → vs ≡ without_zeros ys → or_zero vs ≡ or_zero (without_zeros (xs ++ ys))
none_led xs ys us vs e h f =
    let none : length (without_zeros xs) ≡ 0 = omega (arith, ap length e, eqb-true (length us) 0 h) in
    ap or_zero (f ∙ sym (not_led is_zero xs ys none))

pub second_led : (xs ys us vs : List ℕ) → us ≡ without_zeros xs → (length us == 0) ≡ true → vs ≡ without_zeros ys → (length vs == 0) ≡ false → vs ≡ or_zero (without_zeros (xs ++ ys))
second_led xs ys us vs e h f k = sym (or_zero_none vs k) ∙ none_led xs ys us vs e h f

pub zeros_alone : (xs ys us vs : List ℕ) → us ≡ without_zeros xs → (length us == 0) ≡ true → vs ≡ without_zeros ys → (length vs == 0) ≡ true → codes "0" ≡ or_zero (without_zeros (xs ++ ys))
zeros_alone xs ys us vs e h f k = sym (cond-true (length vs == 0) (codes "0") vs k) ∙ none_led xs ys us vs e h f
