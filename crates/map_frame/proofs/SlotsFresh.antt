-- Numbers stay distinct where a fresh one stands directly after one of them.
use Rattle.kit_words.proofs.Common.{◌≡◌, ◌<◌, ◌+◌, ℕ, refl, sym, ap, ap₂, ◌∙◌, subst, true, List, [], ◌∷◌, ◌++◌, ◌⊎◌}
use Rattle.kit_words.proofs.Common.{inl, inr, arith, AllByRecursion, ℕ_discrete}
use Rattle.ring_machine.specs.Common.{are_distinct}
use Rattle.ring_machine.proofs.Common.{In, in_left, in_right, in-append}
use Rattle.edit_records.proofs.Common.{head_apart}
use Rattle.map_frame.specs.Common.{with_number, new_after}
use Rattle.map_frame.proofs.EditedFeatures.{tail_distinct, cons_distinct}
use Rattle.map_frame.proofs.SlotsGrown.{new_after_here, new_after_other, grown_off}

module _ (n new : ℕ) where
  in_with : (k m : ℕ) → In k (new_after n new m) → (m ≡ k) ⊎ (new ≡ k)
  in_with k m i = by (ℕ_discrete m n)
    where
      two : In k (n ∷ new ∷ []) → m ≡ n → (m ≡ k) ⊎ (new ≡ k)
      two (inl e) s = inl (s ∙ e)
      two (inr (inl e)) s = inr e
      two (inr (inr h)) s = absurd h

      one : In k (m ∷ []) → (m ≡ k) ⊎ (new ≡ k)
      one (inl e) = inl e
      one (inr h) = absurd h

      by : Dec (m ≡ n) → (m ≡ k) ⊎ (new ≡ k)
      by (yes s) = two (subst (In k) (ap (new_after n new) s ∙ new_after_here n new) i) s
      by (no f) = one (subst (In k) (new_after_other n new m f) i)

  with_itself : (m : ℕ) → In m (new_after n new m)
  with_itself m = by (ℕ_discrete m n)
    where
      by : Dec (m ≡ n) → In m (new_after n new m)
      by (yes s) = subst (In m) (sym (ap (new_after n new) s ∙ new_after_here n new)) (inl (sym s))
      by (no f) = subst (In m) (sym (new_after_other n new m f)) (inl refl)

  -- what stands in the longer list
  pub in_grown : (k : ℕ) (ns : List ℕ) → In k (with_number n new ns) → In k ns ⊎ (new ≡ k)
  in_grown k [] i = absurd i
  in_grown k (m ∷ ns) i = elim (in-append k (new_after n new m) (with_number n new ns) i) [
    | inl j ↦ elim (in_with k m j) [ inl e ↦ inl (inl e) | inr e ↦ inr e ]
    | inr j ↦ elim (in_grown k ns j) [ inl h ↦ inl (inr h) | inr e ↦ inr e ]
  ]

  pub grown_keeps : (k : ℕ) (ns : List ℕ) → In k ns → In k (with_number n new ns)
  grown_keeps k [] i = absurd i
  grown_keeps k (m ∷ ns) (inl e) =
      in_left k (new_after n new m) (with_number n new ns) (subst (λ z. In z (new_after n new m)) e (with_itself m))
  grown_keeps k (m ∷ ns) (inr i) = in_right k (new_after n new m) (with_number n new ns) (grown_keeps k ns i)

  pub grown_has : (ns : List ℕ) → In n ns → In new (with_number n new ns)
  grown_has [] i = absurd i
  grown_has (m ∷ ns) (inl e) =
      in_left new (new_after n new m) (with_number n new ns)
      (subst (In new) (sym (ap (new_after n new) e ∙ new_after_here n new)) (inr (inl refl)))
  grown_has (m ∷ ns) (inr i) = in_right new (new_after n new m) (with_number n new ns) (grown_has ns i)

  pub grown_distinct : (ns : List ℕ) → are_distinct ns ≡ true → (In new ns → ⊥) → are_distinct (with_number n new ns) ≡ true
  grown_distinct [] d off = refl
  grown_distinct (m ∷ ns) d off =
      by (ℕ_discrete m n) (grown_distinct ns (tail_distinct m ns d) (λ i. off (inr i)))
    where
      by : Dec (m ≡ n) → are_distinct (with_number n new ns) ≡ true → are_distinct (new_after n new m ++ with_number n new ns) ≡ true
      by (yes s) rest =
          ap₂ (λ a b. are_distinct (a ++ b)) (ap (new_after n new) s ∙ new_after_here n new)
          (grown_off n new ns (λ i. head_apart m ns d (subst (λ z. In z ns) (sym s) i)))
          ∙ cons_distinct n (new ∷ ns) (apart s) (cons_distinct new ns (λ i. off (inr i)) (tail_distinct m ns d))
        where
          apart : m ≡ n → In n (new ∷ ns) → ⊥
          apart s (inl e) = off (inl (s ∙ sym e))
          apart s (inr i) = head_apart m ns d (subst (λ z. In z ns) (sym s) i)
      by (no f) rest =
          ap (λ a. are_distinct (a ++ with_number n new ns)) (new_after_other n new m f)
          ∙ cons_distinct m (with_number n new ns) (λ i. apart (in_grown m ns i)) rest
        where
          apart : In m ns ⊎ (new ≡ m) → ⊥
          apart (inl i) = head_apart m ns d i
          apart (inr e) = off (inl (sym e))

-- each number of the longer list is below the next bound
pub grown_below : (n bound : ℕ) (ns : List ℕ) → n < bound → AllByRecursion (λ m. m < bound) ns
    → AllByRecursion (λ m. m < bound + 1) (with_number n bound ns)
grown_below n bound [] l h = h
grown_below n bound (m ∷ ns) l h = by (ℕ_discrete m n) (grown_below n bound ns l h.1)
  where
    by : Dec (m ≡ n) → AllByRecursion (λ m. m < bound + 1) (with_number n bound ns)
        → AllByRecursion (λ m. m < bound + 1) (new_after n bound m ++ with_number n bound ns)
    by (yes s) rest =
        subst (λ z. AllByRecursion (λ m. m < bound + 1) (z ++ with_number n bound ns))
        (sym (ap (new_after n bound) s ∙ new_after_here n bound))
        (omega (arith, l), (omega arith, rest))
    by (no f) rest =
        subst (λ z. AllByRecursion (λ m. m < bound + 1) (z ++ with_number n bound ns)) (sym (new_after_other n bound m f))
        (let below : m < bound = h.0 in (let next : m < bound + 1 = omega (arith, below) in next, rest))
