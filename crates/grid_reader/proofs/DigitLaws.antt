-- What points do to the number of decimals that a grid keeps.
use Rattle.kit_words.proofs.Common.{◌≡◌, ℕ, ◌≤◌, ◌==◌, if◌then◌else◌, List, ap, ap₂, ◌∙◌, arith, nat_tests}
use Rattle.grid_reader.specs.Common.{Wants, PointNeeds, FinePosition, digits_fitting, decimals_kept, decimals_of_all, furthest, furthest_of_all}
use Rattle.grid_reader.specs.Common.{greater, most_decimals, no_needs}

at_least : (a b : ℕ) → a ≤ greater a b
at_least a b = grind arith

-- no point makes it coarser than the arcs alone do
pub no_coarser : (wants : Wants) (arcs : List (List FinePosition)) → digits_fitting wants (furthest arcs) (most_decimals arcs) ≤ decimals_kept wants arcs
no_coarser wants arcs =
    at_least (digits_fitting wants (furthest arcs) (most_decimals arcs)) (digits_fitting wants (furthest_of_all wants arcs) (decimals_of_all wants arcs))

nothing_more : (n : ℕ) → greater 0 n ≡ n
nothing_more n = grind arith

no_decimals_more : (n : ℕ) → (if n == 0 then 0 else greater 0 n) ≡ n
no_decimals_more n = grind (arith, nat_tests)

same : (n : ℕ) → greater n n ≡ n
same n = grind arith

-- and where no points count it is that of the arcs alone
pub of_arcs_alone : (wants : Wants) (arcs : List (List FinePosition)) → wants.points ≡ no_needs
    → decimals_kept wants arcs ≡ digits_fitting wants (furthest arcs) (most_decimals arcs)
of_arcs_alone wants arcs none =
    let most = most_decimals arcs in
    let far : furthest_of_all wants arcs ≡ furthest arcs = ap (λ (needs : PointNeeds). greater needs.furthest (furthest arcs)) none ∙ nothing_more (furthest arcs) in
    let all : decimals_of_all wants arcs ≡ most = ap (λ (needs : PointNeeds). if most == 0 then 0 else greater needs.decimals most) none ∙ no_decimals_more most in
    ap₂ (λ (f m : ℕ). greater (digits_fitting wants (furthest arcs) most) (digits_fitting wants f m)) far all
    ∙ same (digits_fitting wants (furthest arcs) most)
