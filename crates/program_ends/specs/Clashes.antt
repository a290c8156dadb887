-- Which arguments of a program name one file, and may not.
use Rattle.std.specs.Prelude.{ℕ, Bool, true, false, ◌&&◌, List, [], ◌∷◌, Option, None, Some, option_map, string_bytes}
use Rattle.std.specs.Borrow.{Bor}
use Rattle.std.specs.List.{find}
use Rattle.std.specs.Str.{bytes_eq}
use Rattle.program_ends.specs.declared.naming.NamedFile.{NamedFile}
use Rattle.program_ends.specs.declared.naming.Role.{Role}
use Rattle.program_ends.specs.declared.naming.Role.TheVariants.{Edited, Read, Saved, Written}

-- whether two arguments with these roles may not name one file: one of them is written, and it is not
-- what is saved over what is edited
abbrev pub harms : Role → Role → Bool
harms Edited Edited = false
harms Edited Read = false
harms Edited Saved = false
harms Read Edited = false
harms Read Read = false
harms Saved Edited = false
harms role other = true

-- whether both names are there, and are one
abbrev pub are_one : Option (List ℕ) → Option (List ℕ) → Bool
are_one (Some name) (Some other) = bytes_eq name other
are_one name other = false

-- whether two arguments name one file, and may not
abbrev pub clash : NamedFile → NamedFile → Bool
clash file other = harms file.role other.role
    && are_one (option_map string_bytes file.name) (option_map string_bytes other.name)

-- the first argument that clashes with a file, if one does
abbrev pub first_with : NamedFile → List NamedFile → Option (Bor (List ℕ))
first_with file rest = option_map (λ (other : NamedFile). other.argument) (find (clash file) rest)

-- the argument with the one found, or else what the rest gives
abbrev pub paired : Bor (List ℕ) → Option (Bor (List ℕ)) → Option (Bor (List ℕ) × Bor (List ℕ)) → Option (Bor (List ℕ) × Bor (List ℕ))
paired argument None rest = rest
paired argument (Some other) rest = Some (argument, other)

-- the first argument that clashes with one after it, with the first such one
abbrev pub first_clash : List NamedFile → Option (Bor (List ℕ) × Bor (List ℕ))
first_clash [] = None
first_clash (file ∷ files) = paired file.argument (first_with file files) (first_clash files)
