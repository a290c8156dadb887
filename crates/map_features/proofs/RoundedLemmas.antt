-- Last digits that are dropped one after another.
use Rattle.kit_words.proofs.Common.{◌≡◌, ◌<◌, ◌≤◌, ◌-◌, ◌+◌, ℕ, zero, suc, Bool, true, false, arith, refl}
use Rattle.map_features.specs.SquareUnits.{cut_often, cut_once}
use Rattle.map_features.specs.declared.square_units.Rounded.{Rounded}

-- one step of so many that are left
pub one_less : (test : ℕ → Bool) (count i : ℕ) (r : Rounded) → i < count
    → cut_often test (count - (i + 1)) (cut_once test r) ≡ cut_often test (count - i) r
unfolding cut_often
one_less test count i r h =
    let step : count - i ≡ suc (count - (i + 1)) = omega arith in
    rw step

pub none_left : (test : ℕ → Bool) (count i : ℕ) (r : Rounded) → count ≤ i → cut_often test (count - i) r ≡ r
unfolding cut_often
none_left test count i r h =
    let none : count - i ≡ 0 = omega arith in
    rw none
