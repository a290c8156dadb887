-- An arc that is written plainly: its positions with a comma between each two of them, without
-- space, and each number with a minus and digits alone.
-- Bytes: 44 `,`, 45 `-`, 91 `[`, 93 `]`.
use Rattle.std.specs.Prelude.{◌≡◌, ℕ, ◌+◌, ◌<◌, ◌≤◌, ◌^◌, ℤ, ◌+ℤ◌, List, [], ◌∷◌, ◌++◌, Bool, true, false, ◌==◌, ◌||◌, Ok, map, length, drop}
use Rattle.std.specs.List.{list_all}
use Rattle.json_spans.specs.Common.{is_digit, part_len, parts_left, trimmed, value_from, whole_of}
use Rattle.json_spans.specs.Parts.{Node}
use Rattle.json_spans.specs.declared.parts.Skip.TheVariants.{Plain}
use Rattle.grid_geometry.specs.Common.{Position, position, InRange}
use Rattle.topo_reader.specs.Positions.{origin, positions}

-- a minus or a digit
abbrev pub is_plain : ℕ → Bool
is_plain x = (x == 45) || is_digit x

-- the bytes are one digit to eighteen that are the value, and the rest
pub record PlainDigits (bytes : List ℕ) (value : ℕ) (rest : List ℕ) : Type 0 where
  pub digits : List ℕ
  pub is : bytes ≡ digits ++ rest
  pub are : list_all is_digit digits ≡ true
  pub some : 0 < length digits
  pub value_is : value ≡ value_from 0 digits
  pub small : value < 10 ^ 18

-- the bytes are a word of minus and digits that is the number, and the rest
pub record PlainNumber (bytes : List ℕ) (z : ℤ) (rest : List ℕ) : Type 0 where
  pub word : List ℕ
  pub is : bytes ≡ word ++ rest
  pub plain : list_all is_plain word ≡ true
  pub number : whole_of word ≡ Ok z

-- the bytes are a list of two such numbers, and the rest
pub record PlainPair (bytes : List ℕ) (x y : ℤ) (rest : List ℕ) : Type 0 where
  pub first : List ℕ
  pub second : List ℕ
  pub is : bytes ≡ 91 ∷ first
  pub x_is : PlainNumber first x (44 ∷ second)
  pub y_is : PlainNumber second y (93 ∷ rest)

-- what follows a comma in front, or the closing bracket
abbrev pub Follows : List ℕ → Bool → List ℕ → Type 0
Follows bytes true rest = bytes ≡ 44 ∷ rest
Follows bytes false rest = bytes ≡ 93 ∷ rest

-- the items that are left from the place on, if more are
abbrev pub nodes_from : Bool → ℕ → List ℕ → List Node
nodes_from more place bytes = map trimmed (parts_left more place bytes)

-- The bytes begin with the pair that leads from one position to the other, and the rest follows;
-- where a comma stands between, more pairs are to come.
pub record PlainStep (before p : Position) (bytes : List ℕ) (more : Bool) (left : List ℕ) :
    Type 0 where
  pub x : ℤ
  pub y : ℤ
  pub rest : List ℕ
  pub pair : PlainPair bytes x y rest
  pub follows : Follows rest more left
  pub sum : p ≡ position (before.x +ℤ x) (before.y +ℤ y)
  pub in_range : InRange p

-- with the closing bracket at the end, or nothing where no more is to come
abbrev pub Ends : Bool → List ℕ → Type 0
Ends true text = (front : List ℕ) × (text ≡ front ++ 93 ∷ [])
Ends false text = text ≡ []

-- inside the list, or after it
abbrev pub level : Bool → ℕ
level true = 1
level false = 0

-- The bytes are a text and the rest. The text ends with the list that it is inside of, and its
-- items are read as these positions, wherever they stand.
pub record PlainFront (delta : Bool) (before : Position) (more : Bool) (bytes : List ℕ)
    (ps : List Position) (rest : List ℕ) : Type 0 where
  pub text : List ℕ
  pub is : bytes ≡ text ++ rest
  pub reads : (place : ℕ) → positions delta before (nodes_from more place text) ≡ Ok ps
  pub ends : Ends more text
  pub spans : (r : List ℕ) →
      part_len 44 Plain (level more) (text ++ r) ≡ length text + part_len 44 Plain 0 r

-- the bytes are an arc of these positions, two or more, and the rest
pub record PlainArc (delta : Bool) (bytes : List ℕ) (ps : List Position) (rest : List ℕ) :
    Type 0 where
  pub inside : List ℕ
  pub is : bytes ≡ 91 ∷ inside
  pub opens : inside ≡ 91 ∷ drop 1 inside
  pub front : PlainFront delta origin true inside ps rest
  pub long : 2 ≤ length ps
