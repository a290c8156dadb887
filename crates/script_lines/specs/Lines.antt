-- What a line of a script asks.
use Rattle.std.specs.Prelude.{◌≡◌, ℕ, ℤ, pos, negsuc, ◌<◌, ◌≤◌, ◌^◌, ◌==◌, List, [], ◌∷◌, ◌++◌, length, Bool, true, codes, Option, None, Some, IsTrue, IsUtf8, if◌then◌else◌}
use Rattle.std.specs.Fmt.{signed_decimal}
use Rattle.std.specs.List.{AllByRecursion, flat_map}
use Rattle.grid_geometry.specs.Common.{Position, InRange}
use Rattle.ring_machine.specs.Common.{Text, Command, Move, Insert, Remove, Thin, Split, Merge, Rename, Delete, Undo}
use Rattle.ring_machine.specs.Common.{Area, At, Neighbours, Rings, Count, Show}
use Rattle.topo_outline.specs.Common.{IsName}
use Rattle.edit_records.specs.Common.{string_text}

-- one carriage return before the line feed is dropped
abbrev pub without_return : List ℕ → List ℕ
without_return [] = []
without_return (b ∷ []) = if b == 13 then [] else (b ∷ [])
without_return (b ∷ c ∷ bs) = b ∷ without_return (c ∷ bs)

-- a number after its space: 0, or digits of which the first is not 0, perhaps after a minus
abbrev pub spaced : ℤ → List ℕ
spaced z = 32 ∷ signed_decimal z

abbrev pub spaced_position : Position → List ℕ
spaced_position p = spaced p.x ++ spaced p.y

-- the most that the bound of a thinning may be: twice the area of the whole grid
abbrev pub most_bound : ℕ
most_bound = 8000000000000000000000000

-- a JSON string after its space
abbrev pub spaced_token : Text → List ℕ
spaced_token token = 32 ∷ token

-- the positions one after another, each number after its space
abbrev pub spaced_path : List Position → List ℕ
spaced_path path = flat_map spaced_position path

-- the token is a JSON string that stands for a text, and the id is the one that is written for
-- that text (RFC 8259, 7)
pub record Gives (token id : Text) : Type 0 where
  pub name : List ℕ
  pub stands : IsName token name
  pub written : id ≡ string_text name

-- a path has 2 to 256 positions, each of the grid
pub record IsPath (path : List Position) : Type 0 where
  pub least : 2 ≤ length path
  pub most : length path ≤ 256
  pub in_range : AllByRecursion InRange path

-- the words are these positions and no more, each of the grid
abbrev pub AreSpaced : List ℕ → List Position → Type 0
AreSpaced words ps = (words ≡ spaced_path ps) × AllByRecursion InRange ps

-- the words are the numbers of these features and no more
abbrev pub AreFeatures : List ℕ → List ℕ → Type 0
AreFeatures words ns =
    (words ≡ flat_map (λ n. spaced (pos n)) ns) × AllByRecursion (λ n. n < 2 ^ 32) ns

-- the words are the number of a feature, a JSON string that gives the id, and the rest
pub record AreNaming (words : List ℕ) (n : ℕ) (id : Text) (rest : List ℕ) : Type 0 where
  pub token : Text
  pub whole : words ≡ spaced (pos n) ++ (spaced_token token ++ rest)
  pub number : n < 2 ^ 32
  pub gives : Gives token id

-- the word that the line of a command begins with
abbrev pub asking_word : Command → List ℕ
asking_word (Move p q) = codes "move"
asking_word (Insert a b q) = codes "insert"
asking_word (Remove p) = codes "remove"
asking_word (Thin t) = codes "thin"
asking_word (Split n id path) = codes "split"
asking_word (Merge n m) = codes "merge"
asking_word (Rename n id) = codes "rename"
asking_word (Delete n) = codes "delete"
asking_word Undo = codes "undo"
asking_word (Area n) = codes "area"
asking_word (At p) = codes "at"
asking_word (Neighbours n) = codes "neighbours"
asking_word (Rings n) = codes "rings"
asking_word Count = codes "count"
asking_word Show = codes "document"

-- what follows the word, with exactly one space before each word
abbrev pub AskedWith : List ℕ → Command → Type 0
AskedWith tail (Move p q) = AreSpaced tail (p ∷ q ∷ [])
AskedWith tail (Insert a b q) = AreSpaced tail (a ∷ b ∷ q ∷ [])
AskedWith tail (Remove p) = AreSpaced tail (p ∷ [])
AskedWith tail (Thin (pos t)) = (tail ≡ spaced (pos t)) × (t ≤ most_bound)
AskedWith tail (Thin (negsuc t)) = ⊥
AskedWith tail (Split n id path) = AreNaming tail n id (spaced_path path) × IsPath path
AskedWith tail (Merge n m) = AreFeatures tail (n ∷ m ∷ [])
AskedWith tail (Rename n id) = AreNaming tail n id []
AskedWith tail (Delete n) = AreFeatures tail (n ∷ [])
AskedWith tail Undo = tail ≡ []
AskedWith tail (Area n) = AreFeatures tail (n ∷ [])
AskedWith tail (At p) = AreSpaced tail (p ∷ [])
AskedWith tail (Neighbours n) = AreFeatures tail (n ∷ [])
AskedWith tail (Rings n) = AreFeatures tail (n ∷ [])
AskedWith tail Count = tail ≡ []
AskedWith tail Show = tail ≡ []

-- the line asks for the command
pub record Asks (line : List ℕ) (c : Command) : Type 0 where
  pub tail : List ℕ
  pub whole : line ≡ asking_word c ++ tail
  pub asked : AskedWith tail c

-- an empty line, or a comment
abbrev pub is_comment : List ℕ → Bool
is_comment [] = true
is_comment (b ∷ bs) = b == 35

-- an empty line and a comment, which are UTF-8, ask for nothing, and another line for its command
abbrev pub AsksFor : List ℕ → Option Command → Type 0
AsksFor line None = IsUtf8 line × IsTrue (is_comment line)
AsksFor line (Some c) = Asks line c

-- a line of at most 8192 bytes says what it asks for
abbrev pub Says : List ℕ → Option Command → Type 0
Says line said = (length line ≤ 8192) × AsksFor line said
