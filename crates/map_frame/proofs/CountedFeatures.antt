-- How many features there are with one more.
use Rattle.kit_words.proofs.Common.{◌≡◌, ◌≢◌, ◌+◌, ℕ, suc, refl, true, false, sym, ap, ◌∙◌, subst, List, [], ◌∷◌}
use Rattle.kit_words.proofs.Common.{length, Option, Some, None, is_some, inl, inr, arith, filter_map, cons_option}
use Rattle.kit_words.proofs.Common.{false≢true}
use Rattle.ring_machine.specs.Common.{are_distinct}
use Rattle.ring_machine.proofs.Common.{In}
use Rattle.edit_records.proofs.Common.{head_apart}
use Rattle.map_frame.proofs.EditedFeatures.{cons_length, cons_less, tail_distinct}

module _ {Y : Type 0} (h k : ℕ → Option Y) (n : ℕ) (there : is_some (h n) ≡ true) (gone : is_some (k n) ≡ false)
    (others : (m : ℕ) → m ≢ n → is_some (k m) ≡ is_some (h m)) where
  cons_gone : (o u : Option Y) (xs ys : List Y) → is_some o ≡ true → is_some u ≡ false → length xs ≡ length ys
      → length (cons_option o xs) ≡ length (cons_option u ys) + 1
  cons_gone (Some x) None xs ys e g f = let k : suc (length xs) ≡ length ys + 1 = omega (arith, f) in k
  cons_gone None u xs ys e g f = absurd (false≢true e)
  cons_gone (Some x) (Some y) xs ys e g f = absurd (false≢true (sym g))

  length_apart : (ns : List ℕ) → (In n ns → ⊥) → length (filter_map h ns) ≡ length (filter_map k ns)
  length_apart [] off = refl
  length_apart (m ∷ ns) off =
      cons_length (h m) (k m) (filter_map h ns) (filter_map k ns) (sym (others m (λ e. off (inl e))))
      (length_apart ns (λ i. off (inr i)))

  pub length_less : (ns : List ℕ) → are_distinct ns ≡ true → In n ns
      → length (filter_map h ns) ≡ length (filter_map k ns) + 1
  length_less [] d i = absurd i
  length_less (m ∷ ns) d (inl e) =
      cons_gone (h m) (k m) (filter_map h ns) (filter_map k ns) (ap (λ z. is_some (h z)) e ∙ there)
      (ap (λ z. is_some (k z)) e ∙ gone) (length_apart ns (λ i. head_apart m ns d (subst (λ z. In z ns) (sym e) i)))
  length_less (m ∷ ns) d (inr i) =
      cons_less (h m) (k m) (filter_map h ns) (filter_map k ns)
      (sym (others m (λ e. head_apart m ns d (subst (λ z. In z ns) (sym e) i))))
      (length_less ns (tail_distinct m ns d) i)
