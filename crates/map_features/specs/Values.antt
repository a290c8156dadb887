-- What JSON values stand for, and the beginnings of texts that are shown.
use Rattle.std.specs.Prelude.{ℕ, zero, suc, Bool, ◌&&◌, ◌==◌, ◌-◌, nat_lt, min, if◌then◌else◌, List, [], ◌∷◌, ◌++◌, length}
use Rattle.std.specs.Prelude.{get_or, take, unwrap_or}
use Rattle.std.specs.Str.{bytes_eq}
use Rattle.json_spans.specs.Common.{decoded, is_tail}
use Rattle.topo_outline.specs.Shape.{unquoted}

-- ---- what a value stands for

-- a JSON value that is a string
abbrev pub is_quoted : List ℕ → Bool
is_quoted value =
    nat_lt 1 (length value) && (get_or value 0 0 == 34 && get_or value (length value - 1) 0 == 34)

-- a JSON value, without the quotes if it is a string
abbrev pub bare_value : List ℕ → List ℕ
bare_value value = if is_quoted value then unquoted value else value

-- a value stands for a text: a string that can be decoded (RFC 8259, 7) for its text, any other value for its text in
-- the map without quotes
abbrev pub text_of_value : List ℕ → List ℕ
text_of_value value = unwrap_or (decoded value) (bare_value value)

abbrev pub stands_for : List ℕ → List ℕ → Bool
stands_for value text = bytes_eq (text_of_value value) text

-- ---- what is shown

-- where a text is cut that is to be cut there or before: no character is cut (RFC 3629, 3)
unfoldable pub cut_end : List ℕ → ℕ → ℕ
cut_end words zero = zero
cut_end words (suc end) =
    if is_tail (get_or words (suc end) 0) then cut_end words end else suc end

-- the first bytes of a text, at most so many
abbrev pub first_bytes : List ℕ → ℕ → List ℕ
first_bytes words most = take (cut_end words (min (length words) most)) words

-- three dots, U+2026 in UTF-8
abbrev pub dots : List ℕ
dots = 226 ∷ 128 ∷ 166 ∷ []

-- three dots behind a beginning of a text, where it is not all
abbrev pub dots_behind : List ℕ → List ℕ → List ℕ
dots_behind part words = if nat_lt (length part) (length words) then dots else []

-- a text, or the first bytes of it and three dots
abbrev pub shortened_text : List ℕ → ℕ → List ℕ
shortened_text words most = first_bytes words most ++ dots_behind (first_bytes words most) words

-- what a value stands for, as it is shown
abbrev pub shown_value : List ℕ → List ℕ
shown_value value = shortened_text (text_of_value value) 48
