-- No two neighbours of a walk are equal.
use Rattle.kit_words.proofs.Common.{◌≡◌, Bool, true, List, [], ◌∷◌, ◌++◌, refl, sym, ap, ap₂, ◌∙◌, subst, ◌&&◌, not}
use Rattle.kit_words.proofs.Common.{list_all, flat_map}
use Rattle.grid_geometry.specs.Common.{Position, position_eq, Edge, links}
use Rattle.topo_reader.specs.Common.{Arc, is_walk, squeezed, Chain, Once, none, last, same, next, IsWalk, nowhere}
use Rattle.topo_reader.specs.Common.{around}
use Rattle.topo_reader.proofs.Repeats.{not_equal}
use Rattle.topo_reader.proofs.MeaningOfRings.{all_is, begins_with, once_squeezed}

-- the edge has two ends
abbrev parts : Edge → Bool
parts e = not (position_eq e.0 e.1)

-- what is kept begins as the list does
once_begins : {p : Position} {ps qs : List Position} → Once (p ∷ ps) qs → (rest : List Position) × (qs ≡ p ∷ rest)
once_begins last = ([], refl)
once_begins (same o) = once_begins o
once_begins (next {qs = qs} apart o) = (qs, refl)

once_parts : {ps qs : List Position} → Once ps qs → list_all parts (links qs) ≡ true
once_parts none = refl
once_parts last = refl
once_parts (same o) = once_parts o
once_parts (next {p = p} {q = q} {qs = qs} apart o) =
    let begins = once_begins o in
    subst (λ rs. list_all parts (links (p ∷ rs)) ≡ true) (sym begins.1)
    (ap₂ (λ a b. a && b) (ap not (not_equal p q apart)) (subst (λ rs. list_all parts (links rs) ≡ true) begins.1 (once_parts o)))

-- a walk begins where its arcs do
begins_there : {start : Position} (uses : List Arc) (p : Position) (ps : List Position) → Chain start uses start
    → Once (flat_map (λ a. a) uses) (p ∷ ps) → start ≡ p
unfolding squeezed
begins_there [] p ps c o = absurd (nothing (once_squeezed [] (p ∷ ps) o))
  where
    nothing : [] ≡ p ∷ ps → ⊥
    nothing e = absurd cc
begins_there {start = start} (a ∷ as') p ps c o =
    let first = begins_with c in
    let begins = once_begins (subst (λ qs. Once qs (p ∷ ps)) (sym (all_is (a ∷ as')) ∙ first.1) o) in
    first_same begins.0 begins.1
  where
    first_same : (rest : List Position) → p ∷ ps ≡ start ∷ rest → start ≡ p
    first_same rest e = cc

pub walk_is : (uses : List Arc) (walk : List Position) → IsWalk uses walk → is_walk walk ≡ true
walk_is uses walk nowhere = refl
walk_is uses walk (around {start = start} c o) = by walk c o
  where
    by : (ps : List Position) → Chain start uses start → Once (flat_map (λ a. a) uses) (ps ++ start ∷ []) → is_walk ps ≡ true
    by [] c o = refl
    by (p ∷ ps) c o =
        subst (λ q. list_all parts (links (p ∷ ps ++ q ∷ [])) ≡ true) (begins_there uses p (ps ++ start ∷ []) c o) (once_parts o)
