-- Lists of texts (RFC 8259, 5), put one after another.
use Rattle.kit_words.proofs.Common.{◌≡◌, ℕ, suc, false, nat_tests, ◌==◌, ◌+◌, ◌<◌, ◌++◌, ◌∙◌, ◌∷◌, [], List, length, map, codes, nat_lt, ap, sym, append_assoc, append-nil}
use Rattle.kit_words.proofs.Common.{appended_three, appended_five, appended_six, flat_map-append, map-append, suc_positive, Bool, mapped_more, get_or, take, length-map, length-take-le, arith}
use Rattle.ring_machine.specs.Common.{Text}
use Rattle.map_text.specs.Common.{comma_if, commas, further, list_text}

pub not_zero : (n : ℕ) → (suc n == 0) ≡ false
not_zero n = grind (arith, nat_tests)

-- one text more, after a comma where something stands before
pub commas_next : (ts : List Text) (t : Text) → commas (ts ++ t ∷ []) ≡ commas ts ++ (comma_if (nat_lt 0 (length ts)) ++ t)
commas_next [] t = append-nil t
commas_next (u ∷ us) t =
    ap (λ z. u ++ z) (flat_map-append (λ v. codes "," ++ v) us (t ∷ []) ∙ ap (λ z. further us ++ z) (append-nil (codes "," ++ t)))
    ∙ sym (append_assoc u (further us) (codes "," ++ t))
    ∙ ap (λ b. (u ++ further us) ++ (comma_if b ++ t)) (sym (suc_positive (length us)))

pub list_next : (ts : List Text) (t : Text) (b : Bool) (o now mid end : Text) → b ≡ nat_lt 0 (length ts)
    → now ≡ o ++ commas ts → mid ≡ now ++ comma_if b → end ≡ mid ++ t → end ≡ o ++ commas (ts ++ t ∷ [])
list_next ts t b o now mid end n p q r =
    r ∙ ap (λ z. z ++ t) (q ∙ ap (λ z. z ++ comma_if b) p)
    ∙ append_assoc (o ++ commas ts) (comma_if b) t ∙ append_assoc o (commas ts) (comma_if b ++ t)
    ∙ ap (λ c. o ++ (commas ts ++ (comma_if c ++ t))) n
    ∙ ap (λ z. o ++ z) (sym (commas_next ts t))

pub list_end : (ts : List Text) (old now new : Text) → now ≡ (old ++ codes "[") ++ commas ts → new ≡ now ++ codes "]" → new ≡ old ++ list_text ts
list_end ts old now new p q = appended_three old (codes "[") (commas ts) (codes "]") (old ++ codes "[") now new (refl') p q
  where
    refl' : old ++ codes "[" ≡ old ++ codes "["
    refl' = cc

-- one element more of those that are mapped, at its place
pub map_next : {A B : Type 0} (f : B → Text) (v : A → B) (xs : List A) (i : ℕ) (x : A) (b : Bool) (o now mid end : Text) → i < length xs → x ≡ get_or xs i x
    → b ≡ nat_lt 0 i → now ≡ o ++ commas (map f (map v (take i xs))) → mid ≡ now ++ comma_if b → end ≡ mid ++ f (v x)
    → end ≡ o ++ commas (map f (map v (take (i + 1) xs)))
map_next f v xs i x b o now mid end l e n p q r =
    list_next (map f (map v (take i xs))) (f (v x)) b o now mid end (n ∙ ap (nat_lt 0) (sym (so_many f v xs i l))) p q r
    ∙ ap (λ z. o ++ commas z) (sym (map-append f (map v (take i xs)) (v x ∷ [])) ∙ ap (map f) (sym (mapped_more v xs i x l e)))
  where
    so_many : {A B C : Type 0} (g : B → C) (u : A → B) (ys : List A) (k : ℕ) → k < length ys → length (map g (map u (take k ys))) ≡ k
    so_many g u ys k lt = length-map (map u (take k ys)) g ∙ length-map (take k ys) u ∙ length-take-le k ys (omega arith)
