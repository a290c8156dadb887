-- Words of a line, and numbers and positions at its front.
use Rattle.std.specs.Prelude.{◌≡◌, ◌≢◌, ℕ, ℤ, pos, ◌<◌, ◌^◌, ◌==◌, not, List, [], ◌∷◌, ◌++◌, Bool, FitsSigned}
use Rattle.std.specs.Int.{w64}
use Rattle.grid_geometry.specs.Common.{Position, InRange}
use Rattle.script_lines.specs.Lines.{spaced, spaced_position, spaced_token, spaced_path, IsPath}

abbrev pub is_letter : ℕ → Bool
is_letter b = not (b == 32)

-- a word ends here: at the end, or at a space
abbrev pub EndsWord : List ℕ → Type 0
EndsWord [] = Unit {0}
EndsWord (b ∷ bs) = b ≡ 32

-- digits are one, or more of which the first is not 0
abbrev pub WithoutNeedlessZero : List ℕ → Type 0
WithoutNeedlessZero [] = ⊥
WithoutNeedlessZero (d ∷ []) = Unit {0}
WithoutNeedlessZero (d ∷ ds) = d ≢ 48

-- after a space stands the number z, and the rest follows
pub record IsSpaced (bytes : List ℕ) (z : ℤ) (rest : List ℕ) : Type 0 where
  pub whole : bytes ≡ spaced z ++ rest
  pub ends : EndsWord rest
  pub fits : FitsSigned w64 z

-- a position stands in front, and the rest follows
pub record IsPlace (bytes : List ℕ) (p : Position) (rest : List ℕ) : Type 0 where
  pub whole : bytes ≡ spaced_position p ++ rest
  pub ends : EndsWord rest
  pub range : InRange p

-- after a space stands the number n of a feature, and the rest follows
pub record IsFeature (bytes : List ℕ) (n : ℕ) (rest : List ℕ) : Type 0 where
  pub whole : bytes ≡ spaced (pos n) ++ rest
  pub ends : EndsWord rest
  pub range : n < 2 ^ 32

-- any byte but a quotation mark
abbrev pub is_unmarked : ℕ → Bool
is_unmarked b = not (b == 34)

-- no byte is a quotation mark
abbrev pub NoMark : List ℕ → Type 0
NoMark [] = Unit {0}
NoMark (b ∷ bs) = (b ≢ 34) × NoMark bs

-- the first byte and the last one are quotation marks
pub record IsMarked (token : List ℕ) : Type 0 where
  pub behind : List ℕ
  pub before : List ℕ
  pub begins : token ≡ 34 ∷ behind
  pub ends : token ≡ before ++ 34 ∷ []

-- after a space stands a token that ends in the last quotation mark, and the rest follows
pub record IsToken (bytes token rest : List ℕ) : Type 0 where
  pub whole : bytes ≡ spaced_token token ++ rest
  pub marked : IsMarked token
  pub last : NoMark rest

-- the bytes are a path, and no more
pub record IsPathTail (bytes : List ℕ) (path : List Position) : Type 0 where
  pub whole : bytes ≡ spaced_path path
  pub along : IsPath path
