-- Worked examples: where the file has a place of a topology that was made of it, and the report of GeoJSON.
use Rattle.kit_words.proofs.Common.{◌≡◌, refl, List, [], ◌∷◌, codes, true, false}
use Rattle.geo_topology.specs.Text.{CopiedPart}
use Rattle.border_mend.specs.Geojson.{place_in_file, told_report}

-- two parts of three bytes, which stand in the file the other way round
abbrev first : CopiedPart
first = record { made = 5; file = 20; len = 3 }

abbrev second : CopiedPart
second = record { made = 8; file = 2; len = 3 }

abbrev both : List CopiedPart
both = first ∷ second ∷ []

first_byte : place_in_file both 5 ≡ 20
first_byte = refl

last_byte : place_in_file both 7 ≡ 22
last_byte = refl

next_part : place_in_file both 8 ≡ 2
next_part = refl

behind_them : place_in_file both 11 ≡ 11
behind_them = refl

own_text : place_in_file [] 7 ≡ 7
own_text = refl

-- ---- reports

clear : told_report true (codes "opens\ncounts short 0\n") ≡ codes "geojson\ncounts short 0\n"
clear = refl

with_findings : told_report true (codes "short 0 0 0\n") ≡ codes "geojson\nshort 0 0 0\n"
with_findings = refl

of_topology : told_report false (codes "opens\ncounts short 0\n") ≡ codes "opens\ncounts short 0\n"
of_topology = refl
