-- Sums over what is left of a list, an element at a time.
use Rattle.kit_words.proofs.Common.{◌≡◌, ℕ, ◌<◌, ◌+◌, refl, sym, ap, ◌∙◌, List, [], ◌∷◌, length, get_or, drop, ◌-ℤ◌}
use Rattle.kit_words.proofs.Common.{fold, drop_more, sum_by-cons}
use Rattle.std.specs.Prelude.{sum_by}
use Rattle.grid_geometry.specs.Common.{Position}
use Rattle.ring_machine.specs.Common.{absolute_area, polygon_area}

pub fold_rest : {A C : Type 0} (f : C → A → C) (z : C) (xs : List A) (i : ℕ) (d : A) → i < length xs → fold f z (drop i xs) ≡ fold f (f z (get_or xs i d)) (drop (i + 1) xs)
fold_rest f z xs i d l = ap (fold f z) (drop_more xs i d l)

pub sum_rest : {A : Type 0} (h : A → ℕ) (xs : List A) (i : ℕ) (d : A) → i < length xs → sum_by h (drop i xs) ≡ h (get_or xs i d) + sum_by h (drop (i + 1) xs)
sum_rest h xs i d l = ap (sum_by h) (drop_more xs i d l) ∙ sum_by-cons h (get_or xs i d) (drop (i + 1) xs)

-- the outer ring, and then the holes
pub outer_first : (rings : List (List Position)) → fold (λ so_far hole. so_far -ℤ absolute_area hole) (absolute_area (get_or rings 0 [])) (drop 1 rings) ≡ polygon_area rings
outer_first [] = refl
outer_first (outer ∷ holes) = refl

pub sum_outer_first : (rings : List (List Position)) → length (get_or rings 0 []) + sum_by length (drop 1 rings) ≡ sum_by length rings
sum_outer_first [] = refl
sum_outer_first (outer ∷ holes) = sym (sum_by-cons length outer holes)
