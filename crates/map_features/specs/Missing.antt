-- What is in one list and not in another.
use Rattle.std.specs.Prelude.{List, map, Bool, not}
use Rattle.std.specs.List.{list_any}

-- by element, whether the others have none that is equal to it
abbrev pub missing_flags : {T : Type 0} → (T → T → Bool) → List T → List T → List Bool
missing_flags eq others these = map (λ x. not (list_any (λ y. eq y x) others)) these
