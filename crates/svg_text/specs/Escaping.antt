-- Text as an XML text or an attribute's value has it (XML 1.0, 2.2, 2.4 and 2.11).
use Rattle.std.specs.Prelude.{ℕ, ◌==◌, ◌<◌, ◌≢◌, ◌≡◌, ◌⊎◌, Bool, nat_lt, not, ◌&&◌, ◌||◌, List, [], ◌∷◌, ◌++◌, codes, if◌then◌else◌}

-- U+FFFD, in UTF-8
abbrev pub replacement : List ℕ
replacement = 239 ∷ 191 ∷ 189 ∷ []

-- a control character that no XML text may have: all but a tab and a line feed. A carriage return,
-- which a reader takes for a line feed, is written as a reference
abbrev pub is_control : ℕ → Bool
is_control b = nat_lt b 32 && not (b == 9 || b == 10)

-- a byte of a text, as XML has it
abbrev pub escaped_byte : ℕ → List ℕ
escaped_byte b =
    if b == 38 then codes "&amp;" else
    (if b == 60 then codes "&lt;" else
    (if b == 62 then codes "&gt;" else
    (if b == 34 then codes "&quot;" else
    (if b == 39 then codes "&apos;" else
    (if b == 13 then codes "&#13;" else
    (if is_control b then replacement else (b ∷ [])))))))

-- with the two bytes before it, it is U+FFFE or U+FFFF, which no XML text may have
abbrev pub ends_noncharacter : ℕ → ℕ → ℕ → Bool
ends_noncharacter first second b = first == 239 && second == 191 && (b == 190 || b == 191)

-- a byte after two others, as XML has it; the last byte of U+FFFE becomes that of U+FFFD
abbrev pub escaped_after : ℕ → ℕ → ℕ → List ℕ
escaped_after first second b =
    if ends_noncharacter first second b then (189 ∷ []) else escaped_byte b

-- the bytes after two others, as XML has them
abbrev pub escaped_from : ℕ → ℕ → List ℕ → List ℕ
escaped_from first second [] = []
escaped_from first second (b ∷ bs) = escaped_after first second b ++ escaped_from second b bs

-- a text as XML has it
abbrev pub escaped : List ℕ → List ℕ
escaped bytes = escaped_from 0 0 bytes

-- ---- what that is

-- the references that are written
pub data IsReference : List ℕ → Type 0 where
  ampersand : IsReference (codes "&amp;")
  less : IsReference (codes "&lt;")
  greater : IsReference (codes "&gt;")
  quote : IsReference (codes "&quot;")
  apostrophe : IsReference (codes "&apos;")
  return : IsReference (codes "&#13;")

-- a byte that means itself in a text and in a quoted value: no markup and no control character but a
-- tab and a line feed
pub record IsPlain (b : ℕ) : Type 0 where
  pub no_ampersand : b ≢ 38
  pub no_less : b ≢ 60
  pub no_greater : b ≢ 62
  pub no_quote : b ≢ 34
  pub no_apostrophe : b ≢ 39
  pub no_control : b < 32 → (b ≡ 9) ⊎ (b ≡ 10)

-- bytes that mean themselves, and references
pub data IsXmlText : List ℕ → Type 0 where
  none : IsXmlText []
  plain : {b : ℕ} {bs : List ℕ} → IsPlain b → IsXmlText bs → IsXmlText (b ∷ bs)
  reference : {name bs : List ℕ} → IsReference name → IsXmlText bs → IsXmlText (name ++ bs)
