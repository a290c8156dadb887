-- The first two arguments that clash, by a walk over the files.
use Rattle.kit_words.proofs.Common.{◌≡◌, ℕ, ◌+◌, ◌<◌, sym, ap, ◌∙◌, List, length, drop, get_or, Option, None, Some, Bor, at_drop_more}
use Rattle.program_ends.specs.Clashes.{first_with, paired, first_clash}
use Rattle.program_ends.specs.declared.naming.NamedFile.{NamedFile}

step : (files : List NamedFile) (i : ℕ) (file : NamedFile) → i < length files → file ≡ get_or files i file → first_clash (drop i files) ≡ paired file.argument (first_with file (drop (i + 1) files)) (first_clash (drop (i + 1) files))
step files i file l e =
    at_drop_more first_clash files i file l
    ∙ ap (λ (f : NamedFile). paired f.argument (first_with f (drop (i + 1) files)) (first_clash (drop (i + 1) files))) (sym e)

pub clash_passed : (files : List NamedFile) (i : ℕ) (file : NamedFile) → i < length files → file ≡ get_or files i file → first_with file (drop (i + 1) files) ≡ None → first_clash (drop (i + 1) files) ≡ first_clash (drop i files)
clash_passed files i file l e h =
    sym (step files i file l e ∙ ap (λ (o : Option (Bor (List ℕ))). paired file.argument o (first_clash (drop (i + 1) files))) h)

pub clash_found : (files : List NamedFile) (i : ℕ) (file : NamedFile) (other : Bor (List ℕ)) → i < length files → file ≡ get_or files i file → first_with file (drop (i + 1) files) ≡ Some other → first_clash (drop i files) ≡ Some (file.argument, other)
clash_found files i file other l e h =
    step files i file l e ∙ ap (λ (o : Option (Bor (List ℕ))). paired file.argument o (first_clash (drop (i + 1) files))) h
