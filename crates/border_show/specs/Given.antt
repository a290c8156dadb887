-- The words that the program is called with, and what they ask for.
use Rattle.std.specs.Prelude.{◌≡◌, List, map, false, string_bytes, String}
use Rattle.std.specs.declared.alloc.Global.{Global}
use Rattle.std.specs.List.{list_any}
use Rattle.clap.specs.Words.{Row, matches_of}
use Rattle.border_show.specs.Asked.{AreAsked, is_short, show_program}
use Rattle.border_show.specs.declared.arguments.Arguments.{Arguments}

-- the arguments are what clap found among the words, the program's name first. Where no word begins with one dash,
-- that is what its definition finds
pub record AsksFor (given : List (String Global)) (asked : Arguments) : Type 0 where
  pub found : List Row
  pub are_asked : AreAsked found asked
  pub are_found : list_any is_short given ≡ false → found ≡ matches_of (show_program false) (map string_bytes given)
