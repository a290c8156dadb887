-- How wide a label is.
use Rattle.std.specs.Prelude.{ℕ, ℤ, pos, ◌+◌, ◌-◌, ◌*◌, ◌^◌, ◌==◌, min, nat_lt, not, ◌&&◌, List, [], ◌∷◌, ◌++◌, sum_by, if◌then◌else◌}
use Rattle.svg_text.specs.Escaping.{ends_noncharacter, is_control, replacement}

-- ---- a text as it is drawn

-- a byte as it is drawn: U+FFFD for a control character that XML lacks
abbrev pub drawn_byte : ℕ → List ℕ
drawn_byte b = if is_control b && not (b == 13) then replacement else (b ∷ [])

-- a byte after two others; U+FFFE and U+FFFF, which XML lacks too, become U+FFFD by their last byte
abbrev pub drawn_after : ℕ → ℕ → ℕ → List ℕ
drawn_after first second b = if ends_noncharacter first second b then (189 ∷ []) else drawn_byte b

-- the bytes after two others
abbrev pub drawn_from : ℕ → ℕ → List ℕ → List ℕ
drawn_from first second [] = []
drawn_from first second (b ∷ bs) = drawn_after first second b ++ drawn_from second b bs

abbrev pub drawn_text : List ℕ → List ℕ
drawn_text text = drawn_from 0 0 text

-- ---- its width

-- for how many letters a byte of UTF-8 stands: for two if a character from U+0800 on begins there, for one if another
-- one does, and for none within a character
abbrev pub letters_at : ℕ → ℕ
letters_at b = if nat_lt b 128 then 1 else (if nat_lt b 192 then 0 else (if nat_lt b 224 then 1 else 2))

abbrev pub letters_in : List ℕ → ℕ
letters_in text = sum_by letters_at text

-- how wide a label is, in hundredths of a pixel, if that fits 64 bits: its letters as they are drawn, and one more
abbrev pub label_width : List ℕ → ℤ
label_width text = pos (min (720 * (letters_in (drawn_text text) + 1)) (2 ^ 63 - 1))
