-- Numbers in which a new one stands directly after another.
use Rattle.kit_words.proofs.Common.{eq-eqb, ◌≡◌, ◌≢◌, ℕ, zero, suc, refl, sym, ap, ap₂, ◌∙◌, List, [], ◌∷◌, ◌++◌}
use Rattle.kit_words.proofs.Common.{slice_set, inl, inr, Some, arith, if◌then◌else◌, slice_get, flat_map}
use Rattle.std.proofs.Common.{ne_eqb}
use Rattle.ring_machine.proofs.Common.{In}
use Rattle.map_frame.specs.Common.{with_number, new_after}
use Rattle.map_frame.proofs.NamedOnce.{same_some}

-- ---- one part of a list of parts is changed

module _ {X Y : Type 0} (g : X → List Y) (H : List Y → List Y) (none : H [] ≡ [])
    (both : (a b : List Y) → H (a ++ b) ≡ H a ++ H b) where
  -- the parts are changed where they stand
  parts_alike : (xs : List X) → ((j : ℕ) (z : X) → slice_get xs j ≡ Some z → g z ≡ H (g z)) → flat_map g xs ≡ H (flat_map g xs)
  parts_alike [] each = sym none
  parts_alike (x ∷ xs) each =
      ap₂ (λ y z. y ++ z) (each 0 x refl) (parts_alike xs (λ j z e. each (suc j) z e)) ∙ sym (both (g x) (flat_map g xs))

  -- one part was written
  pub part_set : (xs : List X) (i : ℕ) (x y : X) → slice_get xs i ≡ Some x → g y ≡ H (g x)
      → ((j : ℕ) (z : X) → j ≢ i → slice_get xs j ≡ Some z → g z ≡ H (g z))
      → flat_map g (slice_set xs i y) ≡ H (flat_map g xs)
  part_set [] i x y e h others = absurd cc
  part_set (z ∷ xs) zero x y e h others =
      ap₂ (λ a b. a ++ b) (h ∙ ap (λ w. H (g w)) (sym (same_some z x e)))
      (parts_alike xs (λ j w f. others (suc j) w (λ q. absurd (omega (arith, q))) f))
      ∙ sym (both (g z) (flat_map g xs))
  part_set (z ∷ xs) (suc i) x y e h others =
      ap₂ (λ a b. a ++ b) (others 0 z (λ q. absurd (omega (arith, q))) refl)
      (part_set xs i x y e h (λ j w f k. others (suc j) w (λ q. f (let r : j ≡ i = omega (arith, q) in r)) k))
      ∙ sym (both (g z) (flat_map g xs))

-- ---- the numbers

module _ (n new : ℕ) where
  pub new_after_here : new_after n new n ≡ n ∷ new ∷ []
  new_after_here = ap (λ b. if b then n ∷ new ∷ [] else (n ∷ [])) (eq-eqb n n refl)

  pub new_after_other : (m : ℕ) → m ≢ n → new_after n new m ≡ m ∷ []
  new_after_other m f = ap (λ b. if b then n ∷ new ∷ [] else (m ∷ [])) (ne_eqb m n f)

  -- numbers without n stay
  pub grown_off : (ns : List ℕ) → (In n ns → ⊥) → with_number n new ns ≡ ns
  grown_off [] off = refl
  grown_off (m ∷ ns) off =
      ap₂ (λ a b. a ++ b) (new_after_other m (λ e. off (inl e))) (grown_off ns (λ i. off (inr i)))
