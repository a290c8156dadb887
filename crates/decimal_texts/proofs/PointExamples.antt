-- Coordinates on a grid, and texts with them, worked out.
use Rattle.kit_words.proofs.Common.{refl, ◌≡◌, ℕ, ◌^◌, pos, negsuc, List, [], ◌∷◌, codes, Ok, Err}
use Rattle.json_spans.specs.Common.{Node, value_from}
use Rattle.decimal_texts.specs.declared.fault.PointFault.TheVariants as fault
use Rattle.decimal_texts.specs.Common.{number_on_grid, all_or_fault, new_text, spliced}

-- ---- one coordinate, at place 7

abbrev at : ℕ → List ℕ → Node
at place bytes = record { at_byte = place; bytes = bytes }

one_decimal : number_on_grid 1 0 (at 7 (codes "1.26")) ≡ Ok (pos 13)
unfolding value_from
one_decimal = refl

a_finer_grid : number_on_grid 1 2 (at 7 (codes "1.26")) ≡ Ok (pos 1300)
unfolding value_from
a_finer_grid = refl

half_up : number_on_grid 0 0 (at 7 (codes "-0.5")) ≡ Ok (pos 0)
unfolding value_from
half_up = refl

below_half : number_on_grid 0 0 (at 7 (codes "-1.51")) ≡ Ok (negsuc 1)
unfolding value_from
below_half = refl

greatest : number_on_grid 0 0 (at 7 (codes "1e12")) ≡ Ok (pos (10 ^ 12))
unfolding value_from
greatest = refl

beyond_greatest : number_on_grid 0 1 (at 7 (codes "1e12")) ≡ Err (fault.OutOfRange 7)
unfolding value_from
beyond_greatest = refl

long_exponent : number_on_grid 0 0 (at 7 (codes "0e0000")) ≡ Err (fault.OutOfRange 7)
unfolding value_from
long_exponent = refl

no_number : number_on_grid 0 0 (at 7 (codes "null")) ≡ Err (fault.NotNumber 7)
no_number = refl

-- ---- several

first_fault : all_or_fault (new_text 0 0) (at 7 (codes "1e13") ∷ at 12 (codes "null") ∷ []) ≡ Err (fault.OutOfRange 7)
unfolding value_from new_text
first_fault = refl

two_numbers : spliced (codes "[1.26, 2.5]") 0 ((at 1 (codes "1.26"), codes "13") ∷ (at 7 (codes "2.5"), codes "25") ∷ []) ≡ codes "[13, 25]"
unfolding spliced
two_numbers = refl

nothing_new : spliced (codes "[1.5]") 0 [] ≡ codes "[1.5]"
unfolding spliced
nothing_new = refl
