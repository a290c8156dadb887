-- Texts, and the borders of faces, one after another.
use Rattle.kit_words.proofs.Common.{◌≡◌, ◌∙◌, ℕ, suc, ◌+◌, ◌<◌, ◌++◌, ◌∷◌, [], List, ap, ap₂, sym, refl, arith, length, map, take, get_or, nat_lt}
use Rattle.kit_words.proofs.Common.{append_assoc, flat_mapped_more, length-append, length-map, mapped_more}
use Rattle.grid_geometry.specs.Common.{Edge}
use Rattle.ring_machine.specs.Common.{Text}
use Rattle.map_text.specs.Common.{comma_if, commas}
use Rattle.place_text.proofs.Listed.{commas_next}
use Rattle.place_text.proofs.Numbered.{so_many}
use Rattle.cover_places.specs.Places.{PlaceOf}
use Rattle.cover_places.specs.Text.{border_text, borders_text, sides_of}

-- one text more after those so far, which are i; a comma before it, where something stands before
pub text_step : (ts next : List Text) (t : Text) (i : ℕ) → next ≡ ts ++ t ∷ [] → length ts ≡ i
    → (old now mid new : Text) → now ≡ old ++ commas ts → mid ≡ now ++ comma_if (nat_lt 0 i) → new ≡ mid ++ t → new ≡ old ++ commas next
text_step ts next t i e n old now mid new p q r =
    r ∙ ap (λ z. z ++ t) (q ∙ ap (λ z. z ++ comma_if (nat_lt 0 i)) p)
    ∙ append_assoc (old ++ commas ts) (comma_if (nat_lt 0 i)) t ∙ append_assoc old (commas ts) (comma_if (nat_lt 0 i) ++ t)
    ∙ ap (λ k. old ++ (commas ts ++ (comma_if (nat_lt 0 k) ++ t))) (sym n)
    ∙ ap (λ z. old ++ z) (sym (commas_next ts t)) ∙ ap (λ z. old ++ commas z) (sym e)

-- four lists, one behind another
pub four : {X : Type 0} (a b c d p q r new : List X) → p ≡ a → q ≡ p ++ b → r ≡ q ++ c → new ≡ r ++ d → new ≡ a ++ (b ++ (c ++ d))
four a b c d p q r new e f g h =
    h ∙ ap (λ z. z ++ d) (g ∙ ap (λ z. z ++ c) (f ∙ ap (λ z. z ++ b) e))
    ∙ append_assoc (a ++ b) c d ∙ append_assoc a b (c ++ d)

-- ---- borders, each with the arcs behind those before

borders_end : (n : ℕ) (ps : List PlaceOf) (p : PlaceOf) → borders_text n (ps ++ p ∷ []) ≡ borders_text n ps ++ border_text (n + length (sides_of ps)) p ∷ []
borders_end n [] p =
    let e : n ≡ n + 0 = omega arith in
    ap (λ (k : ℕ). border_text k p ∷ []) e
borders_end n (q ∷ ps) p =
    let next = n + length q.face.sides in
    let e : next + length (sides_of ps) ≡ n + length (q.face.sides ++ sides_of ps) = omega (arith, length-append q.face.sides (sides_of ps)) in
    ap (λ (z : List Text). border_text n q ∷ z)
    (borders_end next ps p ∙ ap (λ (k : ℕ). borders_text next ps ++ border_text k p ∷ []) e)

borders_length : (n : ℕ) (ps : List PlaceOf) → length (borders_text n ps) ≡ length ps
borders_length n [] = refl
borders_length n (p ∷ ps) = ap suc (borders_length (n + length p.face.sides) ps)

-- ---- what is seen of the first elements of a list, of which there is one more

module _ {X Y : Type 0} (of : X → Y) (xs : List X) (i : ℕ) (x : X) (l : i < length xs) (e : x ≡ get_or xs i x) where
  pub seen_length : length (map of (take i xs)) ≡ i
  seen_length = length-map (take i xs) of ∙ so_many xs i l

  -- as a function tells them
  pub told_length : (f : Y → Text) → length (map f (map of (take i xs))) ≡ i
  told_length f = length-map (map of (take i xs)) f ∙ seen_length

module _ {X : Type 0} (of : X → PlaceOf) (xs : List X) (i : ℕ) (x : X) (l : i < length xs) (is_x : x ≡ get_or xs i x) where
  pub so_many_borders : length (borders_text 0 (map of (take i xs))) ≡ i
  so_many_borders = borders_length 0 (map of (take i xs)) ∙ seen_length of xs i x l is_x

  -- the sides so far tell the index of the first arc of the next border
  pub borders_more : (n : ℕ) → n ≡ length (sides_of (map of (take i xs)))
      → borders_text 0 (map of (take (i + 1) xs)) ≡ borders_text 0 (map of (take i xs)) ++ border_text n (of x) ∷ []
  borders_more n is =
      let e : 0 + length (sides_of (map of (take i xs))) ≡ n = omega (arith, is) in
      ap (borders_text 0) (mapped_more of xs i x l is_x) ∙ borders_end 0 (map of (take i xs)) (of x)
      ∙ ap (λ (k : ℕ). borders_text 0 (map of (take i xs)) ++ border_text k (of x) ∷ []) e

  sides_more : sides_of (map of (take (i + 1) xs)) ≡ sides_of (map of (take i xs)) ++ (of x).face.sides
  sides_more = flat_mapped_more (λ (p : PlaceOf). p.face.sides) of xs i x l is_x

  pub sides_pushed : (was now part : List Edge) → was ≡ sides_of (map of (take i xs)) → now ≡ was ++ part → part ≡ (of x).face.sides → now ≡ sides_of (map of (take (i + 1) xs))
  sides_pushed was now part p q r = q ∙ ap₂ (λ a b. a ++ b) p r ∙ sym sides_more
