-- A line that names a conflict is in the whole picture.
use Rattle.kit_words.proofs.Common.{◌≡◌, ◌++◌, ap, sym, ◌∙◌, append-nil, codes, ℕ, ℤ, pos, List, [], Option, Some, None, Result, Ok, Err, IfOk, IfSome, OnOk, Vec}
use Rattle.svg_text.specs.Elements.{text_element}
use Rattle.map_features.specs.declared.conflicts.Conflict.{Conflict}
use Rattle.map_drawing.specs.Marks.{IsNamedAbove, IsNamedIn, NamesConflict, conflict_words}
use Rattle.map_drawing.specs.Names.{AddsList, list_head}

pub names : (c : Conflict) (front text style words : List ℕ) (across down : ℤ) → text ≡ front ++ text_element style across down words
    → style ≡ codes "gone" → across ≡ pos 20 → words ≡ conflict_words c → NamesConflict c text
names c front text style words across down is style_is across_is words_is = record {
  front = front;
  down = down;
  named = is ∙ (ap (λ (s : List ℕ). front ++ text_element s across down words) style_is
      ∙ (ap (λ (x : ℤ). front ++ text_element (codes "gone") x down words) across_is
      ∙ ap (λ (ws : List ℕ). front ++ text_element (codes "gone") (pos 20) down ws) words_is));
}

pub above : (conflict : Option Conflict) (map text list : List ℕ) → IfSome conflict (λ c. NamesConflict c map) → text ≡ map ++ list → IfSome conflict (λ c. IsNamedAbove c text)
above None map text list line is = tt
above (Some c) map text list line is = record { map = map; line = line; below = list; ends = is }

-- a list below the map, or nothing
pub with_list : {T E : Type 0} (r : Result T E) (conflict : Option Conflict) (map text : List ℕ) → IfSome conflict (λ c. NamesConflict c map)
    → OnOk r (AddsList map text) → OnOk r (IfSome conflict (λ c. IsNamedAbove c text))
with_list (Ok x) conflict map text line list = above conflict map text (list_head list.down ++ list.rows) line list.added
with_list (Err e) conflict map text line is = tt

pub alone : (conflict : Option Conflict) (text : List ℕ) → IfSome conflict (λ c. NamesConflict c text) → IfSome conflict (λ c. IsNamedAbove c text)
alone conflict text line = above conflict text text [] line (sym (append-nil text))

whole : (conflict : Option Conflict) (text picture : List ℕ) → IfSome conflict (λ c. IsNamedAbove c text) → picture ≡ text ++ codes "</svg>\n" → IfSome conflict (IsNamedIn picture)
whole None text picture line is = tt
whole (Some c) text picture line is = record { text = text; line = line; ends = is }

-- and the end of the picture
pub ended : {A E : Type 0} (r : Result (Vec ℕ A) E) (conflict : Option Conflict) (text : List ℕ) → IfSome conflict (λ c. IsNamedAbove c text)
    → IfOk r (λ picture. picture.items ≡ text ++ codes "</svg>\n") → IfOk r (λ picture. IfSome conflict (IsNamedIn picture.items))
ended (Ok picture) conflict text line is = whole conflict text picture.items line is
ended (Err e) conflict text line is = tt
