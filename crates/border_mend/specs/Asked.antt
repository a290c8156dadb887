-- What the words of the program ask for, as clap reads them.
use Rattle.std.specs.Prelude.{◌≡◌, ◌≢◌, ℕ, ◌≤◌, Bool, true, false, if◌then◌else◌, List, Option, Some, None, codes}
use Rattle.std.specs.Str.{bytes_eq}
use Rattle.std.specs.Str.Parse.{IsNumeral, digits_value, without_leading_plus}
use Rattle.clap.specs.Words.{App, Rule, new_app, new_rule, with_rule, first_of, matches_of}
use Rattle.mend_report.specs.declared.asked.Asked.{Asked}
use Rattle.program_ends.specs.Common.{with_version}
use Rattle.clap.specs.declared.builder.action.ArgAction.TheVariants.{Set}

-- MAP stands in its place and is required
abbrev pub map_argument : Rule
map_argument = record (new_rule (codes "MAP")) { required = true; action = Some Set }

-- an argument that need not be there, and takes a value after its name
abbrev pub option_rule : List ℕ → Rule
option_rule name = record (new_rule name) {
  long = Some name;
  value_names = 1;
  action = Some Set;
}

-- MAP, --most N, --places FILE, --out FILE, --digits K, --refine K, --drop WHAT
abbrev pub mend_program : App
mend_program =
    with_rule (with_rule (with_rule (with_rule (with_rule (with_rule (with_rule
    (with_version (new_app (codes "border_mend"))) map_argument) (option_rule (codes "most")))
    (option_rule (codes "places"))) (option_rule (codes "out"))) (option_rule (codes "digits")))
    (option_rule (codes "refine"))) (option_rule (codes "drop"))

-- the value that clap finds for an argument among the words, the program's name first
abbrev pub value_given : List ℕ → List (List ℕ) → Option (List ℕ)
value_given id words = first_of id (matches_of mend_program words)

-- a number: what a value says, digits that perhaps follow a plus, up to the greatest; and the usual one
-- where there is no value
abbrev pub IsCount : ℕ → ℕ → Option (List ℕ) → ℕ → Type 0
IsCount usual greatest None n = n ≡ usual
IsCount usual greatest (Some text) n =
    IsNumeral 10 (without_leading_plus text) × (n ≡ digits_value 10 (without_leading_plus text))
    × (n ≤ greatest)

-- whether heights, and whether lines are left out: where the value names them
unfoldable pub dropped : Option (List ℕ) → Option (Bool × Bool)
dropped None = Some (false, false)
dropped (Some text) =
    if bytes_eq text (codes "heights") then Some (true, false)
    else (if bytes_eq text (codes "lines") then Some (false, true)
    else (if bytes_eq text (codes "heights,lines") then Some (true, true)
    else (if bytes_eq text (codes "lines,heights") then Some (true, true)
    else None)))

-- what the values of --most, --digits, --refine and --drop ask for; nothing was done about it yet
pub record IsAsked (most digits refine drop : Option (List ℕ)) (asked : Asked) (lines : Bool)
    : Type 0 where
  pub is_most : IsCount 1000 4000000 most asked.most
  pub are_digits : IsCount 24 24 digits asked.grid.digits
  pub is_finer : IsCount 0 12 refine asked.grid.finer
  pub are_dropped : dropped drop ≡ Some (asked.grid.drop_heights, lines)
  pub nothing_dropped : asked.dropped ≡ 0
  pub not_lying : asked.grid.points_lie ≡ false

-- two paths that are given are not the same
abbrev pub AreDifferent : Option (List ℕ) → Option (List ℕ) → Type 0
AreDifferent one other = (path : List ℕ) → one ≡ Some path → other ≢ Some path
