-- What a picture goes on with below its map: labels where they are asked for, the line of a conflict, a list.
use Rattle.kit_words.proofs.Common.{◌≡◌, ◌++◌, ◌∙◌, ap, sym, refl, append-nil, append_assoc, appended_two, appended_three, appended_four, appended_five}
use Rattle.kit_words.proofs.Common.{codes, ℕ, ℤ, pos, Bool, true, false, true≢false, List, [], ◌∷◌, Option, Some, None, Result, Ok, Err, IfOk, IfSome, OnOk, Vec, inl, inr}
use Rattle.std.specs.Prelude.{flat_map}
use Rattle.std.proofs.lemmas.List.Concat.{flat_map-append}
use Rattle.svg_text.specs.Elements.{text_element}
use Rattle.map_features.specs.Names.{id_behind, number_text}
use Rattle.map_features.specs.declared.conflicts.Conflict.{Conflict}
use Rattle.map_drawing.specs.Marks.{NamesConflict, conflict_words}
use Rattle.map_drawing.specs.Names.{Adds, AddsList, AddsNames, AddsNamesAsked, AddsPlace, IsLabelled, IsLabelledAbove, IsLabelledIn}
use Rattle.map_drawing.specs.Names.{IsNumberAndId, NamedFeature, list_head, map_end, named_text}
use Rattle.map_drawing.proofs.NamedLemmas.{names}

-- ---- pieces

pub nothing : (text : List ℕ) → Adds text text
nothing text = record { more = []; added = sym (append-nil text) }

pub five_more : (old a b c d k t u v w new : List ℕ) → t ≡ old ++ a → u ≡ t ++ b → v ≡ u ++ c → w ≡ v ++ d → new ≡ w ++ k → Adds old new
five_more old a b c d k t u v w new e f g h i = record {
  more = a ++ (b ++ (c ++ (d ++ k)));
  added = appended_five old a b c d k t u v w new e f g h i;
}

-- ---- labels

pub is_name : (words items : List ℕ) (number : ℕ) (id : Option (List ℕ)) → words ≡ items → items ≡ number_text number ++ id_behind id → IsNumberAndId words
is_name words items number id same is = record { number = number; id = id; words_are = same ∙ is }

pub is_number : (words items : List ℕ) (number : ℕ) → words ≡ items → items ≡ number_text number → IsNumberAndId words
is_number words items number same is = record { number = number; id = None; words_are = same ∙ (is ∙ sym (append-nil (number_text number))) }

pub no_name : (text : List ℕ) → AddsNames text text
no_name text = record { names = []; added = sym (append-nil text) }

pub one_name : (old new words style : List ℕ) (across down : ℤ) → style ≡ codes "name" → IsNumberAndId words → new ≡ old ++ text_element style across down words
    → AddsNames old new
one_name old new words style across down style_is name is =
    let n : NamedFeature = record { across = across; down = down; number = name.number; id = name.id } in
    record {
      names = n ∷ [];
      added = is ∙ (ap (λ (s : List ℕ). old ++ text_element s across down words) style_is
          ∙ (ap (λ (ws : List ℕ). old ++ text_element (codes "name") across down ws) name.words_are
          ∙ ap (λ (z : List ℕ). old ++ z) (sym (append-nil (named_text n)))));
    }

pub more_names : (old mid new : List ℕ) → AddsNames old mid → AddsNames mid new → AddsNames old new
more_names old mid new some others = record {
  names = some.names ++ others.names;
  added = appended_two old (flat_map named_text some.names) (flat_map named_text others.names) mid new some.added others.added
      ∙ ap (λ (z : List ℕ). old ++ z) (sym (flat_map-append named_text some.names others.names));
}

pub unasked : (asked : Bool) (text : List ℕ) → asked ≡ false → AddsNamesAsked asked text text
unasked true text is = absurd (true≢false is)
unasked false text is = record { labels = []; are_asked = refl; added = sym (append-nil text) }

pub asked_for : {T E : Type 0} (r : Result T E) (asked : Bool) (old new : List ℕ) → asked ≡ true → OnOk r (AddsNames old new) → OnOk r (AddsNamesAsked asked old new)
asked_for (Ok x) true old new is names = record { labels = flat_map named_text names.names; are_asked = (names.names, refl); added = names.added }
asked_for (Ok x) false old new is names = absurd (true≢false (sym is))
asked_for (Err e) asked old new is names = tt

-- ---- the line of a conflict

pub no_place : (text : List ℕ) → AddsPlace None text text
no_place text = record { place = []; is_place = refl; added = sym (append-nil text) }

-- a ring, and the line
pub placed : (c : Conflict) (old mid new style words : List ℕ) (across down : ℤ) → Adds old mid → new ≡ mid ++ text_element style across down words
    → style ≡ codes "gone" → across ≡ pos 20 → words ≡ conflict_words c → AddsPlace (Some c) old new
placed c old mid new style words across down ring is style_is across_is words_is =
    let line : List ℕ = text_element style across down words in
    record {
      place = ring.more ++ line;
      is_place = names c ring.more (ring.more ++ line) style words across down refl style_is across_is words_is;
      added = appended_two old ring.more line mid new ring.added is;
    }

within : (c : Conflict) (old place new : List ℕ) → NamesConflict c place → new ≡ old ++ place → NamesConflict c new
within c old place new line is = record {
  front = old ++ line.front;
  down = line.down;
  named = is ∙ (ap (λ (z : List ℕ). old ++ z) line.named
      ∙ sym (append_assoc old line.front (text_element (codes "gone") (pos 20) line.down (conflict_words c))));
}

named_there : (conflict : Option Conflict) (old new : List ℕ) → AddsPlace conflict old new → IfSome conflict (λ c. NamesConflict c new)
named_there None old new place = tt
named_there (Some c) old new place = within c old place.place new place.is_place place.added

pub named : {T E : Type 0} (r : Result T E) (conflict : Option Conflict) (old new : List ℕ) → OnOk r (AddsPlace conflict old new)
    → OnOk r (IfSome conflict (λ c. NamesConflict c new))
named (Ok x) conflict old new place = named_there conflict old new place
named (Err e) conflict old new place = tt

-- ---- the list

pub headed : (old a b c t u v new style words : List ℕ) (across down : ℤ) → t ≡ old ++ text_element style across down words
    → style ≡ codes "gone" → across ≡ pos 20 → words ≡ codes "borders gone (dashed)" → u ≡ t ++ a → v ≡ u ++ b → new ≡ v ++ c → AddsList old new
headed old a b c t u v new style words across down is style_is across_is words_is e f g = record {
  down = down;
  rows = a ++ (b ++ c);
  added = appended_four old (list_head down) a b c t u v new
      (is ∙ (ap (λ (s : List ℕ). old ++ text_element s across down words) style_is
      ∙ (ap (λ (x : ℤ). old ++ text_element (codes "gone") x down words) across_is
      ∙ ap (λ (ws : List ℕ). old ++ text_element (codes "gone") (pos 20) down ws) words_is)))
      e f g;
}

pub longer : (old mid new list : List ℕ) → AddsList old mid → new ≡ mid ++ list → AddsList old new
longer old mid new list head is = record {
  down = head.down;
  rows = head.rows ++ list;
  added = is ∙ (ap (λ (z : List ℕ). z ++ list) head.added
      ∙ (append_assoc old (list_head head.down ++ head.rows) list
      ∙ ap (λ (z : List ℕ). old ++ z) (append_assoc (list_head head.down) head.rows list)));
}

-- ---- the picture

pub labelled : {T E : Type 0} (r : Result T E) (asked : Bool) (conflict : Option Conflict) (map t u v new : List ℕ) → t ≡ map ++ codes "</g>\n" → u ≡ t ++ codes "</svg>\n"
    → AddsNamesAsked asked u v → OnOk r (AddsPlace conflict v new) → OnOk r (IsLabelled asked conflict new)
labelled (Ok x) asked conflict map t u v new e f names place = record {
  map = map;
  labels = names.labels;
  place = place.place;
  are_asked = names.are_asked;
  is_place = place.is_place;
  text_is = appended_three map map_end names.labels place.place u v new (appended_two map (codes "</g>\n") (codes "</svg>\n") t u e f) names.added place.added;
}
labelled (Err d) asked conflict map t u v new e f names place = tt

pub alone : (asked : Bool) (conflict : Option Conflict) (text : List ℕ) → IsLabelled asked conflict text → IsLabelledAbove asked conflict text
alone asked conflict text h = record { text = text; labelled = h; below = inl refl }

pub above_list : {T E : Type 0} (r : Result T E) (asked : Bool) (conflict : Option Conflict) (text whole : List ℕ) → IsLabelled asked conflict text
    → OnOk r (AddsList text whole) → OnOk r (IsLabelledAbove asked conflict whole)
above_list (Ok x) asked conflict text whole h list = record { text = text; labelled = h; below = inr list }
above_list (Err e) asked conflict text whole h list = tt

pub ended : {A E : Type 0} (r : Result (Vec ℕ A) E) (asked : Bool) (conflict : Option Conflict) (text : List ℕ) → IsLabelledAbove asked conflict text
    → IfOk r (λ picture. picture.items ≡ text ++ codes "</svg>\n") → IfOk r (λ picture. IsLabelledIn picture.items asked conflict)
ended (Ok picture) asked conflict text h is = record { text = text; labelled = h; ends = is }
ended (Err e) asked conflict text h is = tt
