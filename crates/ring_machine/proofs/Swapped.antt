-- Lists of features in which those of one number become others, or none.
use Rattle.kit_words.proofs.Common.{◌≡◌, ℕ, Bool, true, false, refl, sym, ap, ap₂, ◌∙◌, cond, List, [], arith, ◌∷◌}
use Rattle.kit_words.proofs.Common.{◌++◌, inl, inr, Some, None, option_map, eqb-true, eq-eqb, ◌==◌, not, list_any}
use Rattle.kit_words.proofs.Common.{filter, find, flat_map, option_or, flat_map-append, find-append, or_parts}
use Rattle.ring_machine.specs.Common.{FeatureOf}
use Rattle.ring_machine.proofs.First.{In}
use Rattle.ring_machine.proofs.Found.{Stands}

module _ {R : Type 0} (n : ℕ) (g : FeatureOf R → List (FeatureOf R)) where
  -- what stands for a feature
  abbrev pub for_one : FeatureOf R → List (FeatureOf R)
  for_one f = cond (f.number == n) (g f) (f ∷ [])

  -- the features, with others in the places of those of the number n
  abbrev pub swapped : List (FeatureOf R) → List (FeatureOf R)
  swapped fs = flat_map for_one fs

  -- where none has the number, nothing changes
  pub swapped_none : (fs : List (FeatureOf R)) → list_any (λ f. f.number == n) fs ≡ false
      → swapped fs ≡ fs
  swapped_none [] h = refl
  swapped_none (f ∷ fs) h =
      let h' = or_parts (f.number == n) (list_any (λ k. k.number == n) fs) h in
      ap₂ (λ b z. cond b (g f) (f ∷ []) ++ z) h'.0 (swapped_none fs h'.1)

  -- where one stands alone, others stand in its place
  pub swapped_alone : (f : FeatureOf R) (fs : List (FeatureOf R)) (s : Stands n f fs)
      → swapped fs ≡ s.us ++ (g f ++ s.vs)
  swapped_alone f fs s =
      ap swapped s.is ∙ flat_map-append for_one s.us (f ∷ s.vs)
      ∙ ap₂ (λ y z. y ++ z) (swapped_none s.us s.none_before)
      (ap₂ (λ b z. cond b (g f) (f ∷ []) ++ z) (eq-eqb f.number n s.number) (swapped_none s.vs s.none_after))

  -- another number is found as before, where the others do not have it
  pub find_other : (m : ℕ) → (n == m) ≡ false → (fs : List (FeatureOf R))
      → ((f : FeatureOf R) → In f fs → f.number ≡ n → find (λ k. k.number == m) (g f) ≡ None)
      → find (λ k. k.number == m) (swapped fs) ≡ find (λ k. k.number == m) fs
  find_other m o [] h = refl
  find_other m o (f ∷ fs) h =
      find-append (λ k. k.number == m) (for_one f) (swapped fs)
      ∙ by (f.number == n) refl (find_other m o fs (λ k i e. h k (inr i) e))
    where
      by : (b : Bool) → (f.number == n) ≡ b
          → find (λ k. k.number == m) (swapped fs) ≡ find (λ k. k.number == m) fs
          → option_or (find (λ k. k.number == m) (cond b (g f) (f ∷ []))) (find (λ k. k.number == m) (swapped fs))
          ≡ cond (f.number == m) (Some f) (find (λ k. k.number == m) fs)
      by true e ih =
          let at : f.number ≡ n = eqb-true f.number n e in
          ap₂ (λ y z. option_or y z) (h f (inl refl) at) ih
          ∙ ap (λ b. cond b (Some f) (find (λ k. k.number == m) fs)) (sym (ap (λ k. k == m) at ∙ o))
      by false e ih = or (f.number == m) ih
        where
          or : (b : Bool) → find (λ k. k.number == m) (swapped fs) ≡ find (λ k. k.number == m) fs
              → option_or (cond b (Some f) None) (find (λ k. k.number == m) (swapped fs))
              ≡ cond b (Some f) (find (λ k. k.number == m) fs)
          or b ih = grind arith

  -- one in the place of each is found as it was
  pub find_one : (h : FeatureOf R → FeatureOf R) → ((f : FeatureOf R) → (h f).number ≡ f.number)
      → ((f : FeatureOf R) → g f ≡ h f ∷ []) → (fs : List (FeatureOf R))
      → find (λ k. k.number == n) (swapped fs) ≡ option_map h (find (λ k. k.number == n) fs)
  find_one h same one [] = refl
  find_one h same one (f ∷ fs) =
      ap (λ z. find (λ k. k.number == n) (cond (f.number == n) z (f ∷ []) ++ swapped fs)) (one f)
      ∙ by (f.number == n) refl (find_one h same one fs)
    where
      by : (b : Bool) → (f.number == n) ≡ b
          → find (λ k. k.number == n) (swapped fs) ≡ option_map h (find (λ k. k.number == n) fs)
          → find (λ k. k.number == n) (cond b (h f ∷ []) (f ∷ []) ++ swapped fs)
          ≡ option_map h (cond b (Some f) (find (λ k. k.number == n) fs))
      by true e ih =
          ap (λ b. cond b (Some (h f)) (find (λ k. k.number == n) (swapped fs))) (ap (λ m. m == n) (same f) ∙ e)
      by false e ih = ap (λ b. cond b (Some f) (find (λ k. k.number == n) (swapped fs))) e ∙ ih

-- ---- without one

-- the features without feature n
abbrev pub without : {R : Type 0} → ℕ → List (FeatureOf R) → List (FeatureOf R)
without n fs = filter (λ f. not (f.number == n)) fs

module _ {R : Type 0} (n : ℕ) where
  -- without a feature is with none in its place
  pub without_swapped : (fs : List (FeatureOf R)) → without n fs ≡ swapped n (λ f. []) fs
  without_swapped [] = refl
  without_swapped (f ∷ fs) = grind (arith, without_swapped fs)
