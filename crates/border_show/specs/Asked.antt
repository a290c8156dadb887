-- What the words of the program ask for, as clap reads them.
use Rattle.std.specs.Prelude.{◌≡◌, ◌&&◌, ◌==◌, ℤ, Bool, true, false, not, nat_lt, List, [], ◌∷◌, length, map}
use Rattle.std.specs.Prelude.{slice_index, Option, Some, None, option_map, unwrap_or, codes, string_bytes, String}
use Rattle.std.specs.declared.alloc.Global.{Global}
use Rattle.std.specs.Borrow.{Bor}
use Rattle.std.specs.Str.Parse.{IsNumeral, signed_digits_value, without_leading_sign}
use Rattle.clap.specs.Words.{App, Row, Rule, Text, all_of, first_of, new_app, new_rule, one_of, with_rule}
use Rattle.clap.specs.declared.builder.action.ArgAction.TheVariants.{Set, SetTrue}
use Rattle.program_ends.specs.Common.{with_version}
use Rattle.map_features.specs.Windows.{IsSquareAbout}
use Rattle.map_features.specs.declared.window.Window.{Window}
use Rattle.grid_geometry.specs.Common.{Position}
use Rattle.border_show.specs.declared.arguments.Arguments.{Arguments}
use Rattle.border_show.specs.declared.arguments.Part.{Part}
use Rattle.border_show.specs.declared.arguments.Part.TheVariants as part

-- ---- the program

-- an argument that stands in its place, and one that takes a value after its name: needed or not
abbrev pub positional_rule : Text → Bool → Rule
positional_rule name needed = record (new_rule name) { required = needed; action = Some Set }

abbrev pub option_rule : Text → Bool → Rule
option_rule name needed = record (new_rule name) {
  long = Some name;
  value_names = 1;
  required = needed;
  action = Some Set;
}

-- --at takes three values; where one may be a negative number, clap does not say what it finds
abbrev pub at_rule : Bool → Rule
at_rule signed = record (new_rule (codes "at")) {
  long = Some (codes "at");
  value_names = 3;
  range = Some (record { start_inclusive = 3; end_inclusive = 3 });
  action = Some Set;
  is_simple = not signed;
}

abbrev pub ids_rule : Rule
ids_rule = record (new_rule (codes "ids")) { long = Some (codes "ids"); action = Some SetTrue }

-- MAP AFTER --out FILE --at X Y WIDTH --feature ID --ids, of which MAP and --out are needed
abbrev pub show_program : Bool → App
show_program signed =
    with_rule (with_rule (with_rule (with_rule (with_rule (with_rule (with_version (new_app (codes "border_show")))
    (positional_rule (codes "MAP") true)) (positional_rule (codes "AFTER") false)) (option_rule (codes "out") true))
    (at_rule signed)) (option_rule (codes "feature") false)) ids_rule

-- ---- words

-- a word begins with one dash and goes on, as a negative number does
abbrev pub begins_short : Text → Bool
begins_short word =
    nat_lt 1 (length word) && (slice_index word 0 == 45 && not (slice_index word 1 == 45))

abbrev pub is_short : String Global → Bool
is_short word = begins_short (string_bytes word)

-- the texts of an argument of several values
abbrev pub texts_of : Option (Bor (List (Bor Text))) → Option (List Text)
texts_of values = option_map (λ texts. map (λ text. text.now) texts.now) values

-- ---- what they ask for

-- a text writes this number: decimal digits, perhaps after a sign
abbrev pub Writes : Text → ℤ → Type 0
Writes text n = IsNumeral 10 (without_leading_sign text) × (n ≡ signed_digits_value 10 text)

-- the first text writes the x of the middle of this square, the second its y, and the third how wide it is
pub record IsSquareNamed (x y width : Text) (square : Window) : Type 0 where
  pub middle : Position
  pub across : Writes x middle.x
  pub upward : Writes y middle.y
  pub wide : Writes width square.width
  pub about : IsSquareAbout middle square.width square

abbrev pub IsSquareAsked : List Text → Window → Type 0
IsSquareAsked (x ∷ y ∷ width ∷ []) square = IsSquareNamed x y width square
IsSquareAsked values square = ⊥

-- the part is all of the map without --at and --feature, the square that --at names, or the surroundings of what
-- --feature names; both together ask for none
abbrev pub IsPartAsked : Option (List Text) → Option Text → Part → Type 0
IsPartAsked None None part.Whole = Unit {0}
IsPartAsked (Some values) None (part.Square square) = IsSquareAsked values square
IsPartAsked None (Some text) (part.Feature name) = string_bytes name ≡ text
IsPartAsked at feature asked = ⊥

-- a flag is on where it is read as true, and off where it is read as false, or as nothing
abbrev pub IsFlag : Option Text → Bool → Type 0
IsFlag None on = on ≡ false
IsFlag (Some text) on = (text ≡ codes "true" → on ≡ true) × (text ≡ codes "false" → on ≡ false)

-- the arguments are what clap found: MAP, AFTER, FILE, the part, and whether ids are written
pub record AreAsked (found : List Row) (asked : Arguments) : Type 0 where
  pub before : string_bytes asked.before ≡ unwrap_or (first_of (codes "MAP") found) []
  pub after : option_map string_bytes asked.after ≡ first_of (codes "AFTER") found
  pub out : string_bytes asked.out ≡ unwrap_or (first_of (codes "out") found) []
  pub part : IsPartAsked (all_of (codes "at") found) (first_of (codes "feature") found) asked.part
  pub ids : IsFlag (one_of (codes "ids") found) asked.has_ids
