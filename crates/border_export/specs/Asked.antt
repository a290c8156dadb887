-- What the words of the program ask for, as clap reads them.
use Rattle.std.specs.Prelude.{◌≡◌, ◌≤◌, ℕ, Bool, true, false, List, [], Option, Some, None, option_map, unwrap_or}
use Rattle.std.specs.Prelude.{codes, map, string_bytes, String}
use Rattle.std.specs.declared.alloc.Global.{Global}
use Rattle.std.specs.Str.Parse.{IsNumeral, digits_value, without_leading_plus}
use Rattle.clap.specs.Words.{App, Row, Rule, Text, first_of, matches_of, new_app, new_rule, one_of, with_rule}
use Rattle.clap.specs.declared.builder.action.ArgAction.TheVariants.{Set, SetTrue}
use Rattle.program_ends.specs.Common.{with_version}
use Rattle.geo_text.specs.Common.{Wants}
use Rattle.border_export.specs.declared.arguments.Arguments.{Arguments}

-- ---- the program

-- MAP stands in its place and is needed
abbrev pub map_rule : Rule
map_rule = record (new_rule (codes "MAP")) { required = true; action = Some Set }

-- an argument that takes a value after its name: needed or not
abbrev pub option_rule : Text → Bool → Rule
option_rule name needed = record (new_rule name) {
  long = Some name;
  value_names = 1;
  required = needed;
  action = Some Set;
}

abbrev pub flatten_rule : Rule
flatten_rule = record (new_rule (codes "flatten")) { long = Some (codes "flatten"); action = Some SetTrue }

-- MAP --out FILE --layer NAME --decimals K --winding HOW --flatten, of which MAP and --out are needed
abbrev pub export_program : App
export_program =
    with_rule (with_rule (with_rule (with_rule (with_rule (with_rule (with_version (new_app (codes "border_export")))
    map_rule) (option_rule (codes "out") true)) (option_rule (codes "layer") false)) (option_rule (codes "decimals") false))
    (option_rule (codes "winding") false)) flatten_rule

-- ---- what its words ask for

-- so many decimals: what a value says, digits that perhaps follow a plus, up to 36; none are asked for without a value
abbrev pub AreDecimals : Option Text → Option ℕ → Type 0
AreDecimals None decimals = decimals ≡ None
AreDecimals (Some text) None = ⊥
AreDecimals (Some text) (Some k) =
    IsNumeral 10 (without_leading_plus text) × (k ≡ digits_value 10 (without_leading_plus text)) × (k ≤ 36)

-- whether rings keep their direction: where the value is `keep`
abbrev pub KeepsWinding : Option Text → Bool → Type 0
KeepsWinding None keeps = keeps ≡ false
KeepsWinding (Some text) keeps = (text ≡ codes "keep") × (keeps ≡ true)

-- a flag is on where it is read as true, and off where it is read as false, or as nothing
abbrev pub IsFlag : Option Text → Bool → Type 0
IsFlag None on = on ≡ false
IsFlag (Some text) on = (text ≡ codes "true" → on ≡ true) × (text ≡ codes "false" → on ≡ false)

-- the arguments are what clap found: MAP, FILE, the layer, the decimals, and what is done with rings and collections
pub record AreAsked (found : List Row) (asked : Arguments) : Type 0 where
  pub map : string_bytes asked.map ≡ unwrap_or (first_of (codes "MAP") found) []
  pub out : string_bytes asked.out ≡ unwrap_or (first_of (codes "out") found) []
  pub layer : option_map string_bytes asked.layer ≡ first_of (codes "layer") found
  pub decimals : AreDecimals (first_of (codes "decimals") found) asked.decimals
  pub winding : KeepsWinding (first_of (codes "winding") found) asked.keeps_winding
  pub flatten : IsFlag (one_of (codes "flatten") found) asked.flattens

-- the same, found among the words by clap's rules, the program's name first
abbrev pub AsksFor : List (String Global) → Arguments → Type 0
AsksFor given asked = AreAsked (matches_of export_program (map string_bytes given)) asked

-- what the arguments ask of the text
abbrev pub wants_of : Arguments → Wants
wants_of asked = record {
  layer = option_map string_bytes asked.layer;
  decimals = asked.decimals;
  keeps_winding = asked.keeps_winding;
  flattens = asked.flattens;
}
