-- A text as it is drawn is written as the text is.
use Rattle.kit_words.proofs.Common.{◌≡◌, ◌==◌, ◌<◌, ◌&&◌, ◌||◌, ◌++◌, ◌∙◌, ap, ap₂, sym, refl, arith, Bool, true, false, not, ℕ, List, [], ◌∷◌}
use Rattle.kit_words.proofs.Common.{and_parts, or_cases, inl, inr, eqb-true, ltb-true, ne_eqb, nat_lt, not-true, if◌then◌else◌}
use Rattle.svg_text.specs.Escaping.{ends_noncharacter, escaped, escaped_after, escaped_byte, escaped_from, is_control, replacement}
use Rattle.map_drawing.specs.Labels.{drawn_after, drawn_byte, drawn_from, drawn_text}

-- after two bytes the same bytes end a character that XML lacks as after two others, and after the second one too
record Alike (first second one two : ℕ) : Type 0 where
  pair : (one == 239 && two == 191) ≡ (first == 239 && second == 191)
  last : (two == 239) ≡ (second == 239)

alike_ends : (first second one two b : ℕ) → Alike first second one two → ends_noncharacter one two b ≡ ends_noncharacter first second b
alike_ends first second one two b h = ap (λ (t : Bool). t && (b == 190 || b == 191)) h.pair

alike_after : (first second one two b : ℕ) → Alike first second one two → escaped_after one two b ≡ escaped_after first second b
alike_after first second one two b h = ap (λ (t : Bool). if t then (189 ∷ []) else escaped_byte b) (alike_ends first second one two b h)

by_test : (t : Bool) (x y : List ℕ) (P : List ℕ → Type 0) → (t ≡ true → P x) → (t ≡ false → P y) → P (if t then x else y)
by_test true x y P one other = one refl
by_test false x y P one other = other refl

by_both : (t : Bool) (x y u v : List ℕ) (P : List ℕ → List ℕ → Type 0) → (t ≡ true → P x u) → (t ≡ false → P y v)
    → P (if t then x else y) (if t then u else v)
by_both true x y u v P one other = one refl
by_both false x y u v P one other = other refl

and_no : (t : Bool) → (t && false) ≡ false
and_no true = refl
and_no false = refl

and_no_more : (t : Bool) → ((t && false) && true) ≡ false
and_no_more true = refl
and_no_more false = refl

-- a byte that ends no such character itself
after_first : (one two : ℕ) → escaped_after one two 239 ≡ 239 ∷ []
after_first one two = ap (λ (t : Bool). if t then (189 ∷ []) else escaped_byte 239) (and_no (one == 239 && two == 191))

after_last : (one two : ℕ) → escaped_after one two 189 ≡ 189 ∷ []
after_last one two = ap (λ (t : Bool). if t then (189 ∷ []) else escaped_byte 189) (and_no (one == 239 && two == 191))

after_middle : (two : ℕ) → escaped_after two 239 191 ≡ 191 ∷ []
after_middle two = ap (λ (t : Bool). if t then (189 ∷ []) else escaped_byte 191) (and_no_more (two == 239))

control_is : (b : ℕ) → b < 32 → is_control b ≡ true → (b == 13) ≡ false → escaped_byte b ≡ replacement
control_is b low control not_return =
    rw (
      ne_eqb b 38 (λ e. omega arith),
      ne_eqb b 60 (λ e. omega arith),
      ne_eqb b 62 (λ e. omega arith),
      ne_eqb b 34 (λ e. omega arith),
      ne_eqb b 39 (λ e. omega arith),
      not_return,
      control,
    ) refl

module _ (first second b : ℕ) (bs : List ℕ)
    (rest : (one two : ℕ) → Alike second b one two → escaped_from one two (drawn_from second b bs) ≡ escaped_from second b bs) where
  abbrev Goes : ℕ → ℕ → List ℕ → List ℕ → Type 0
  Goes one two drawn written = escaped_from one two (drawn ++ drawn_from second b bs) ≡ written ++ escaped_from second b bs

  last_one : (one two : ℕ) → ends_noncharacter first second b ≡ true → Goes one two (189 ∷ []) (189 ∷ [])
  last_one one two is =
      let parts = and_parts (first == 239 && second == 191) (b == 190 || b == 191) is in
      let second_is : second ≡ 191 = eqb-true second 191 (and_parts (first == 239) (second == 191) parts.0).1 in
      let not_first : (b == 239) ≡ false =
      elim (or_cases (b == 190) (b == 191) parts.1) [
        | inl e ↦ ap (λ (x : ℕ). x == 239) (eqb-true b 190 e)
        | inr e ↦ ap (λ (x : ℕ). x == 239) (eqb-true b 191 e)
      ] in
      ap₂ (λ (x y : List ℕ). x ++ y) (after_last one two) (rest two 189 (record {
        pair = and_no (two == 239) ∙ sym (ap (λ (x : ℕ). x == 239 && b == 191) second_is);
        last = sym not_first;
      }))

  replaced : (one two : ℕ) → (is_control b && not (b == 13)) ≡ true → Goes one two replacement (escaped_byte b)
  replaced one two is =
      let parts = and_parts (is_control b) (not (b == 13)) is in
      let low : b < 32 = ltb-true b 32 (and_parts (nat_lt b 32) (not (b == 9 || b == 10)) parts.0).0 in
      ap₂ (λ (x y : List ℕ). x ++ y) (after_first one two)
      (ap₂ (λ (x y : List ℕ). x ++ y) (after_middle two)
      (ap (λ (y : List ℕ). 189 ∷ y) (rest 191 189 (record {
        pair = sym (ap (λ (t : Bool). second == 239 && t) (ne_eqb b 191 (λ e. omega arith)) ∙ and_no (second == 239));
        last = sym (ne_eqb b 239 (λ e. omega arith));
      }))))
      ∙ ap (λ (x : List ℕ). x ++ escaped_from second b bs) (sym (control_is b low parts.0 (not-true (b == 13) parts.1)))

  itself : (one two : ℕ) → Alike first second one two → ends_noncharacter first second b ≡ false → Goes one two (b ∷ []) (escaped_byte b)
  itself one two h is =
      ap₂ (λ (x y : List ℕ). x ++ y)
      (alike_after first second one two b h ∙ ap (λ (t : Bool). if t then (189 ∷ []) else escaped_byte b) is)
      (rest two b (record { pair = ap (λ (t : Bool). t && b == 191) h.last; last = refl }))

  next : (one two : ℕ) → Alike first second one two → Goes one two (drawn_after first second b) (escaped_after first second b)
  next one two h =
      by_both (ends_noncharacter first second b) (189 ∷ []) (drawn_byte b) (189 ∷ []) (escaped_byte b) (Goes one two) (last_one one two)
      (λ is. by_test (is_control b && not (b == 13)) replacement (b ∷ []) (λ (z : List ℕ). Goes one two z (escaped_byte b))
      (replaced one two) (λ _. itself one two h is))

from : (first second : ℕ) (text : List ℕ) (one two : ℕ) → Alike first second one two → escaped_from one two (drawn_from first second text) ≡ escaped_from first second text
from first second [] one two h = refl
from first second (b ∷ bs) one two h = next first second b bs (from second b bs) one two h

pub drawn_alike : (text : List ℕ) → escaped (drawn_text text) ≡ escaped text
drawn_alike text = from 0 0 text 0 0 (record { pair = refl; last = refl })
