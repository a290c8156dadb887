-- Which files are drawn.
use Rattle.std.specs.Prelude.{ℕ, List, Option, option_map, string_bytes, unwrap_or}
use Rattle.border_show.specs.declared.arguments.Arguments.{Arguments}
use Rattle.border_show.specs.declared.maps.MapFile.{MapFile}
use Rattle.border_show.specs.declared.maps.MapFiles.{MapFiles}

abbrev pub file_path : MapFile → List ℕ
file_path file = file.path.now

abbrev pub file_bytes : MapFile → List ℕ
file_bytes file = file.bytes.items

-- the map before an edit is the file that is named first, where another one is named
abbrev pub path_before : Arguments → Option (List ℕ)
path_before asked = option_map (λ after. string_bytes asked.before) asked.after

-- the map that is drawn is that other one, or where there is none the file that is named
abbrev pub path_drawn : Arguments → List ℕ
path_drawn asked = unwrap_or (option_map string_bytes asked.after) (string_bytes asked.before)

-- what they hold
abbrev pub bytes_before : MapFiles → Option (List ℕ)
bytes_before maps = option_map file_bytes maps.before

abbrev pub bytes_drawn : MapFiles → List ℕ
bytes_drawn maps = file_bytes maps.map
