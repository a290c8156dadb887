-- What words ask for, and how a report ends, worked out.
use Rattle.kit_words.proofs.Common.{◌≡◌, refl, true, [], ◌∷◌, ℕ, List, Some, None, Result, Ok, Err, codes}
use Rattle.clap.specs.Words.{Text, all_of, first_of, is_simple, matches_of}
use Rattle.clap.proofs.OnLiterals.{clap_on_literals}
use Rattle.topo_outline.specs.declared.fault.OpenFault.TheVariants as map_fault
use Rattle.cover_report.specs.declared.told.Counts.{Counts}
use Rattle.cover_report.specs.declared.fault.CoverFault.{CoverFault}
use Rattle.cover_report.specs.declared.fault.CoverFault.TheVariants as fault
use Rattle.border_cover.specs.Asked.{cover_program}
use Rattle.border_cover.specs.Endings.{TellsFault}
use Rattle.border_cover.specs.Status.{cover_status}

-- border_cover --layer a map.json --layer b --width=5 --places p.json
abbrev words : List Text
words =
    codes "border_cover" ∷ codes "--layer" ∷ codes "a" ∷ codes "map.json" ∷ codes "--layer" ∷ codes "b" ∷ codes "--width=5"
    ∷ codes "--places" ∷ codes "p.json" ∷ []

simple : is_simple cover_program ≡ true
simple = refl

map : first_of (codes "MAP") (matches_of cover_program words) ≡ Some (codes "map.json")
unfolding clap_on_literals
map = refl

layers : all_of (codes "layer") (matches_of cover_program words) ≡ Some (codes "a" ∷ codes "b" ∷ [])
unfolding clap_on_literals
layers = refl

width : first_of (codes "width") (matches_of cover_program words) ≡ Some (codes "5")
unfolding clap_on_literals
width = refl

places : first_of (codes "places") (matches_of cover_program words) ≡ Some (codes "p.json")
unfolding clap_on_literals
places = refl

area : first_of (codes "area") (matches_of cover_program words) ≡ None
unfolding clap_on_literals
area = refl

-- ---- statuses

abbrev told : ℕ → ℕ → ℕ → ℕ → ℕ → Result Counts CoverFault
told overlaps twices gaps lakes uneven = Ok (record {
  overlaps = overlaps;
  twices = twices;
  gaps = gaps;
  lakes = lakes;
  uneven = uneven;
})

abbrev untold : CoverFault → Result Counts CoverFault
untold e = Err e

nothing : cover_status (told 0 0 0 0 0) ≡ 0
nothing = refl

lakes_alone : cover_status (told 0 0 0 7 0) ≡ 0
lakes_alone = refl

one_gap : cover_status (told 0 0 1 0 0) ≡ 1
one_gap = refl

one_uneven : cover_status (told 0 0 0 7 1) ≡ 1
one_uneven = refl

no_layer : cover_status (untold fault.NoLayer) ≡ 2
no_layer = refl

deep : cover_status (untold (fault.Open (map_fault.TooDeep 7))) ≡ 2
deep = refl

no_memory : cover_status (untold (fault.Open map_fault.OutOfMemory)) ≡ 3
no_memory = refl

no_line : TellsFault fault.NoLayer None
no_line = refl
