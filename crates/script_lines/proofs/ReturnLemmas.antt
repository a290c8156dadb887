-- The carriage return before a line feed.
use Rattle.kit_words.proofs.Common.{◌≡◌, ℕ, suc, ◌-◌, Bool, true, false, length, take, drop, List, [], ◌∷◌, ◌++◌, ◌==◌}
use Rattle.kit_words.proofs.Common.{refl, sym, ap, ap₂, subst, ◌∙◌, arith, bytes_eq, false≢true, take-append-drop, bytes_eq-Decides}
use Rattle.script_lines.specs.Lines.{without_return}

pub returned : (front : List ℕ) → without_return (front ++ 13 ∷ []) ≡ front
returned [] = refl
returned (a ∷ []) = refl
returned (a ∷ b ∷ bs) = ap (λ t. a ∷ t) (returned (b ∷ bs))

pub return_found : (bs front : List ℕ) → bytes_eq (drop (length bs - 1) bs) (13 ∷ []) ≡ true → front ≡ take (length bs - 1) bs → front ≡ without_return bs
return_found bs front e f =
    let whole : bs ≡ front ++ 13 ∷ [] = sym (take-append-drop (length bs - 1) bs) ∙ ap₂ (λ x y. x ++ y) (sym f) ((bytes_eq-Decides (drop (length bs - 1) bs) (13 ∷ [])).0 e) in
    sym (ap without_return whole ∙ returned front)

pub not_returned : (bs : List ℕ) → bytes_eq (drop (length bs - 1) bs) (13 ∷ []) ≡ false → without_return bs ≡ bs
not_returned [] e = refl
not_returned (b ∷ []) e = by (b == 13) refl e
  where
    by : (t : Bool) → (b == 13) ≡ t → bytes_eq (b ∷ []) (13 ∷ []) ≡ false → without_return (b ∷ []) ≡ b ∷ []
    by true k h = absurd (false≢true (sym h ∙ both k))
      where
        both : (b == 13) ≡ true → bytes_eq (b ∷ []) (13 ∷ []) ≡ true
        both q = rw q refl
    by false k h = rw k refl
not_returned (a ∷ b ∷ bs) e = ap (λ t. a ∷ t) (not_returned (b ∷ bs) (shorter e))
  where
    shorter : bytes_eq (drop (length (a ∷ b ∷ bs) - 1) (a ∷ b ∷ bs)) (13 ∷ []) ≡ false → bytes_eq (drop (length (b ∷ bs) - 1) (b ∷ bs)) (13 ∷ []) ≡ false
    shorter h = subst (λ n. bytes_eq (drop n (a ∷ b ∷ bs)) (13 ∷ []) ≡ false) (let g : length (a ∷ b ∷ bs) - 1 ≡ suc (length (b ∷ bs) - 1) = omega arith in g) h
