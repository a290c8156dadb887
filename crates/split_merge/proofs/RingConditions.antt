-- What a merge is refused by, from what its two outer rings have in common.
use Rattle.kit_words.proofs.Common.{◌≡◌, ℕ, ◌<◌, ◌≤◌, Bool, true, false, sym, ap, ap₂, ◌∙◌, List, [], ◌∷◌, Option, None}
use Rattle.kit_words.proofs.Common.{Some, arith, not, nat_le, list_any, nat_tests}
use Rattle.grid_geometry.specs.Common.{Position, edges}
use Rattle.ring_machine.specs.Common.{is_common, runs, common_else, same_side, Refusal, NotNeighbours, Runs, CommonElse}
use Rattle.ring_machine.specs.Common.{SameSide, ◌unless◌, first_of, ring_refusals}
use Rattle.ring_machine.proofs.MergeAccepted.{elsewhere}

-- the first refusal by the answers
abbrev rings_by : Bool → ℕ → Bool → Option Position → Bool → Option Refusal
rings_by some count one other same = first_of (
    NotNeighbours unless some
    ∷ Runs count unless one
    ∷ elsewhere other
    ∷ SameSide unless not same
    ∷ []
    )

-- the first refusal of two rings
abbrev pub refusal : List Position → List Position → Option Refusal
refusal r s = first_of (ring_refusals (Some r) (Some s))

one_run : (n : ℕ) → n ≤ 1 → nat_le n 1 ≡ true
one_run n h = grind (arith, nat_tests)

more_runs : (n : ℕ) → 1 < n → nat_le n 1 ≡ false
more_runs n h = grind (arith, nat_tests)

module _ (r s : List Position) where
  abbrev count : ℕ
  count = runs (is_common s) (edges r)

  abbrev by : Bool → Bool → Option Position → Bool → Option Refusal
  by some one other same = rings_by some count one other same

  pub some_runs : list_any (is_common s) (edges r) ≡ true → (n : ℕ) → n ≡ runs (is_common s) (edges r)
      → 1 < n → refusal r s ≡ Some (Runs n)
  some_runs some n e h =
      ap₂ (λ a b. by a b (common_else r s) (same_side r s)) some (ap (λ m. nat_le m 1) (sym e) ∙ more_runs n h)
      ∙ ap (λ m. Some (Runs m)) (sym e)

  module _ (some : list_any (is_common s) (edges r) ≡ true) (one : runs (is_common s) (edges r) ≤ 1) where
    neighbours : refusal r s ≡ by true true (common_else r s) (same_side r s)
    neighbours = ap₂ (λ a b. by a b (common_else r s) (same_side r s)) some (one_run count one)

    pub common_beside : (p : Position) → common_else r s ≡ Some p → refusal r s ≡ Some (CommonElse p)
    common_beside p e = neighbours ∙ ap (λ o. by true true o (same_side r s)) e

    pub on_one_side : common_else r s ≡ None → same_side r s ≡ true → refusal r s ≡ Some SameSide
    on_one_side e h = neighbours ∙ ap₂ (λ o b. by true true o b) e h

    pub joinable : common_else r s ≡ None → same_side r s ≡ false → refusal r s ≡ None
    joinable e h = neighbours ∙ ap₂ (λ o b. by true true o b) e h
