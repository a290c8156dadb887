-- Features that are numbered in order.
use Rattle.kit_words.proofs.Common.{◌≡◌, ℕ, ◌+◌, ◌<◌, Bool, true, false, arith, refl, sym, ap, ap₂, ◌∙◌, subst, List}
use Rattle.kit_words.proofs.Common.{[], ◌∷◌, ◌++◌, length, map, ◌&&◌, ◌||◌, ◌==◌, not, list_any, nat_tests}
use Rattle.ring_machine.specs.Common.{FeatureOf, are_distinct}

module _ {R : Type 0} where
  -- the features are numbered on from n
  abbrev pub AreNumbered : ℕ → List (FeatureOf R) → Type 0
  AreNumbered n [] = Unit {0}
  AreNumbered n (f ∷ fs) = (f.number ≡ n) × AreNumbered (n + 1) fs

  pub numbered-append : (n m : ℕ) (fs gs : List (FeatureOf R)) → AreNumbered n fs
      → AreNumbered m gs → m ≡ n + length fs → AreNumbered n (fs ++ gs)
  numbered-append n m [] gs h k e = subst (λ z. AreNumbered z gs) (omega (arith, e)) k
  numbered-append n m (f ∷ fs) gs h k e =
      (h.0, numbered-append (n + 1) m fs gs h.1 k (omega (arith, e)))

  pub numbered_distinct : (n : ℕ) (fs : List (FeatureOf R)) → AreNumbered n fs
      → are_distinct (map (λ f. f.number) fs) ≡ true
  numbered_distinct n [] h = refl
  numbered_distinct n (f ∷ fs) h =
      ap₂ (λ y z. not y && z) (absent (n + 1) fs h.1 (subst (λ z. z < n + 1) (sym h.0) (omega arith))) (numbered_distinct (n + 1) fs h.1)
    where
      other : (m k : ℕ) → k < m → (m == k) ≡ false
      other m k l = grind (arith, nat_tests)

      absent : (m : ℕ) (gs : List (FeatureOf R)) → AreNumbered m gs → f.number < m
          → list_any (λ k. k == f.number) (map (λ g. g.number) gs) ≡ false
      absent m [] k l = refl
      absent m (g ∷ gs) k l =
          ap₂ (λ (y : ℕ) (z : Bool). (y == f.number) || z) k.0 (absent (m + 1) gs k.1 (omega (arith, l)))
          ∙ ap (λ b. b || false) (other m f.number l)
