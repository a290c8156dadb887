-- The parts of a report.
use Rattle.kit_words.proofs.Common.{◌≡◌, ℕ, Bool, List, ◌++◌, ◌∙◌, ap, sym, subst, take, decimal, take-map, flat_map-map}
use Rattle.std.specs.Prelude.{flat_map}
use Rattle.grid_geometry.specs.Common.{Position, position_text}
use Rattle.topo_reader.specs.Common.{Opened}
use Rattle.grid_reader.specs.declared.told.Told.{Told}
use Rattle.segment_paths.specs.Common.{path_of_segment, paths_seen}
use Rattle.segment_paths.specs.declared.path.SegmentPath.{SegmentPath}
use Rattle.mend_report.specs.Common.{opens_line, lines, path_line}
use Rattle.mend_report.specs.Remaking.{TellsRemade}
use Rattle.mend_report.specs.declared.remaking.Remade.{Remade}

-- what is appended for a map that opens, where the test is known
pub opened : (old new : List ℕ) (test clear : Bool) → test ≡ clear → new ≡ old ++ opens_line test → new ≡ old ++ opens_line clear
opened old new test clear same e = e ∙ ap (λ (b : Bool). old ++ opens_line b) same

-- what is appended for a path, as it is seen inside
pub begins : {A : Type 0} (inside path : SegmentPath A) (old new : List ℕ) → inside ≡ path
    → new ≡ old ++ position_text inside.segment.lo → new ≡ old ++ position_text path.segment.lo
begins {A = A} inside path old new same e = e ∙ ap (λ (p : SegmentPath A). old ++ position_text p.segment.lo) same

pub ends : {A : Type 0} (inside path : SegmentPath A) (old new : List ℕ) → inside ≡ path
    → new ≡ old ++ position_text inside.segment.hi → new ≡ old ++ position_text path.segment.hi
ends {A = A} inside path old new same e = e ∙ ap (λ (p : SegmentPath A). old ++ position_text p.segment.hi) same

pub goes_along : {A : Type 0} (line : Position → List ℕ) (inside path : SegmentPath A) (whole : List Position) (old new : List ℕ) → inside ≡ path
    → whole ≡ inside.inner.items → new ≡ old ++ flat_map line whole → new ≡ old ++ flat_map line path.inner.items
goes_along {A = A} line inside path whole old new same is_whole e =
    e ∙ ap (λ (z : List Position). old ++ flat_map line z) (is_whole ∙ ap (λ (p : SegmentPath A). p.inner.items) same)

-- what is appended for the prefix of a list
pub told : {X : Type 0} (most : ℕ) (line : X → List ℕ) (xs whole : List X) (old new : List ℕ) → whole ≡ xs
    → new ≡ old ++ lines most line whole → new ≡ old ++ lines most line xs
told {X = X} most line xs whole old new is_whole e = e ∙ ap (λ (z : List X). old ++ lines most line z) is_whole

-- what is appended for the prefix of a list of paths
pub led : {A : Type 0} (most : ℕ) (paths whole : List (SegmentPath A)) (old new : List ℕ) → whole ≡ paths
    → new ≡ old ++ lines most (λ p. path_line (path_of_segment p)) whole → new ≡ old ++ lines most path_line (paths_seen paths)
led {A = A} most paths whole old new is_whole e =
    e ∙ ap (λ (z : List (SegmentPath A)). old ++ lines most (λ p. path_line (path_of_segment p)) z) is_whole
    ∙ ap (λ (z : List ℕ). old ++ z) (sym (flat_map-map path_line path_of_segment (take most paths)))
    ∙ ap (λ z. old ++ flat_map path_line z) (sym (take-map path_of_segment most paths))

-- what is appended for a count, where it is known
pub numbered : (n m : ℕ) (old new : List ℕ) → n ≡ m → new ≡ old ++ decimal n → new ≡ old ++ decimal m
numbered n m old new same e = e ∙ ap (λ (k : ℕ). old ++ decimal k) same

-- the lines that were left out are reported as many as were asked for
pub told_as_asked : {A : Type 0} (most dropped asked : ℕ) (o : Opened) (grid : Told) (remade : Remade A) (before after : List ℕ)
    → dropped ≡ asked → TellsRemade most dropped o grid remade before after → TellsRemade most asked o grid remade before after
told_as_asked most dropped asked o grid remade before after same tells = subst (λ n. TellsRemade most n o grid remade before after) same tells
