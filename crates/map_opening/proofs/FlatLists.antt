-- Rings that are moved into one list, and numbers that are put into lists again.
use Rattle.kit_words.proofs.Common.{◌≡◌, ◌≤◌, ◌+◌, ◌-◌, ℕ, refl, sym, ap, ◌∙◌, List, [], ◌∷◌, ◌++◌, map, length, drop}
use Rattle.kit_words.proofs.Common.{arith, append_assoc, slice_range, sum, length-append, length-take, length-drop}
use Rattle.kit_words.proofs.Common.{drop_split, flat_map-append, sum_by-cons}
use Rattle.std.proofs.Common.{append-nil}
use Rattle.map_opening.specs.Common.{in_lists, rings_of_features, shape_of, ring_count}

-- ---- moved out of lists

-- what was taken off the front came to the end
pub moved : {B : Type 0} (now was part left before all : List B) → now ≡ was ++ part → before ≡ part ++ left
    → was ++ before ≡ all → now ++ left ≡ all
moved now was part left before all e f h =
    ap (λ z. z ++ left) e ∙ append_assoc was part left ∙ ap (λ z. was ++ z) (sym f) ∙ h

pub all_moved : {B : Type 0} (now left all : List B) → left ≡ [] → now ++ left ≡ all → now ≡ all
all_moved now left all e h = sym (append-nil now) ∙ ap (λ z. now ++ z) (sym e) ∙ h

-- ---- put into lists again

-- so many numbers are taken, where there are as many
pub length-range : (numbers list : List ℕ) (next n : ℕ) → list ≡ slice_range numbers next (next + n)
    → next + n ≤ length numbers → length list ≡ n
length-range numbers list next n e few =
    ap length e ∙ length-take ((next + n) - next) (drop next numbers)
    ∙ omega (arith, few, length-drop next numbers)

-- the next numbers are put into a list
pub joined_next : (lists lists' : List (List ℕ)) (list numbers all : List ℕ) (next end : ℕ) → lists' ≡ lists ++ list ∷ []
    → list ≡ slice_range numbers next end → next ≤ end → in_lists lists ++ drop next numbers ≡ all
    → in_lists lists' ++ drop end numbers ≡ all
joined_next lists lists' list numbers all next end e f l h =
    ap (λ z. in_lists z ++ drop end numbers) e
    ∙ ap (λ z. z ++ drop end numbers) (flat_map-append (λ xs. xs) lists (list ∷ []) ∙ ap (λ z. in_lists lists ++ z) (append-nil list))
    ∙ append_assoc (in_lists lists) list (drop end numbers)
    ∙ ap (λ z. in_lists lists ++ z) (ap (λ z. z ++ drop end numbers) f ∙ sym (drop_split numbers next end l)) ∙ h

-- and the next lists into a feature
pub all_next : (features features' : List (List (List ℕ))) (lists : List (List ℕ)) (numbers : List ℕ) (next next' : ℕ)
    → features' ≡ features ++ lists ∷ [] → in_lists lists ++ drop next' numbers ≡ drop next numbers
    → rings_of_features features ++ drop next numbers ≡ numbers → rings_of_features features' ++ drop next' numbers ≡ numbers
all_next features features' lists numbers next next' e f h =
    ap (λ z. rings_of_features z ++ drop next' numbers) e
    ∙ ap (λ z. z ++ drop next' numbers) (flat_map-append in_lists features (lists ∷ []) ∙ ap (λ z. rings_of_features features ++ z) (append-nil (in_lists lists)))
    ∙ append_assoc (rings_of_features features) (in_lists lists) (drop next' numbers)
    ∙ ap (λ z. rings_of_features features ++ z) f ∙ h

-- ---- how many rings there are

length-joined : {R : Type 0} (polygons : List (List R)) → length (in_lists polygons) ≡ sum (map length polygons)
length-joined [] = refl
length-joined (rings ∷ polygons) =
    omega (arith, length-append rings (in_lists polygons), length-joined polygons, sum_by-cons (λ n. n) (length rings) (map length polygons))

pub length-all_rings : {R : Type 0} (features : List (List (List R))) → length (rings_of_features features) ≡ ring_count (shape_of features)
length-all_rings [] = refl
length-all_rings (polygons ∷ features) =
    omega (arith, length-append (in_lists polygons) (rings_of_features features), length-joined polygons, length-all_rings features, sum_by-cons sum (map length polygons) (shape_of features))
