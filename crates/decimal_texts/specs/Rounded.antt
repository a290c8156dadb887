-- The text of a topology with its points on a grid of whole numbers: each coordinate is the number
-- that it is rounded to, and all else is as it stands.
use Rattle.std.specs.Prelude.{ℕ, ◌-◌, ◌^◌, ℤ, pos, ◌*ℤ◌, unsigned_abs, nat_le, Bool, true, false, List, [], ◌∷◌, ◌++◌, take, drop, Option, Some, None, Result, Ok, Err}
use Rattle.std.specs.Fmt.{signed_decimal}
use Rattle.json_spans.specs.Common.{Node, kind_of}
use Rattle.json_spans.specs.declared.kinds.Kind.{Kind}
use Rattle.json_spans.specs.declared.kinds.Kind.TheVariants as kind
use Rattle.decimal_texts.specs.Decimal.{Parts, parts_of}
use Rattle.decimal_texts.specs.Fine.{fine, rounded}
use Rattle.decimal_texts.specs.declared.fault.PointFault.{PointFault}
use Rattle.decimal_texts.specs.declared.fault.PointFault.TheVariants as fault
use Rattle.decimal_texts.specs.Points.{all_coordinates}
use Rattle.decimal_texts.specs.Dropped.{end_of, whole_value}

-- one after another: the first fault is answered
abbrev pub ok_then : {A B : Type 0} → Result A PointFault → (A → Result B PointFault)
    → Result B PointFault
ok_then (Ok x) f = f x
ok_then (Err e) f = Err e

-- the first fault in order, or all answers
abbrev pub all_or_fault : {A B : Type 0} → (A → Result B PointFault) → List A → Result (List B) PointFault
all_or_fault f [] = Ok []
all_or_fault f (a ∷ as') =
    ok_then (f a) (λ b. ok_then (all_or_fault f as') (λ bs. Ok (b ∷ bs)))

-- r, where the test holds
abbrev pub or_fault : {A : Type 0} → Bool → PointFault → Result A PointFault → Result A PointFault
or_fault true f r = r
or_fault false f r = Err f

-- ---- one coordinate

abbrev pub is_number_kind : Kind → Bool
is_number_kind kind.Number = true
is_number_kind _ = false

-- so many units of 10^-24 are within 10^12 on a grid of so many decimals, 10^finer times as fine
-- again
abbrev pub fits_grid : ℕ → ℕ → ℤ → Bool
fits_grid digits finer z = nat_le (unsigned_abs z) (10 ^ (36 - finer - digits))

-- a number, by its parts, as a whole number of the grid
abbrev pub parts_on_grid : ℕ → ℕ → ℕ → Option Parts → Result ℤ PointFault
parts_on_grid digits finer place None = Err (fault.OutOfRange place)
parts_on_grid digits finer place (Some p) =
    or_fault (fits_grid digits finer (fine p)) (fault.OutOfRange place)
    (Ok (rounded digits (fine p) *ℤ pos (10 ^ finer)))

-- a coordinate as a whole number of the grid
abbrev pub number_on_grid : ℕ → ℕ → Node → Result ℤ PointFault
number_on_grid digits finer n =
    or_fault (is_number_kind (kind_of n.bytes)) (fault.NotNumber n.at_byte)
    (parts_on_grid digits finer n.at_byte (parts_of n.bytes))

-- a coordinate and its new text
unfoldable pub new_text : ℕ → ℕ → Node → Result (Node × List ℕ) PointFault
new_text digits finer n = ok_then (number_on_grid digits finer n) (λ z. Ok (n, signed_decimal z))

-- ---- the whole text

-- the bytes from one place up to another
abbrev pub bytes_between : ℕ → ℕ → List ℕ → List ℕ
bytes_between from to bytes = take (to - from) (drop from bytes)

-- the bytes from a place on, where each of these values has its new text
unfoldable pub spliced : List ℕ → ℕ → List (Node × List ℕ) → List ℕ
spliced bytes from [] = drop from bytes
spliced bytes from (c ∷ cs) =
    bytes_between from c.0.at_byte bytes ++ (c.1 ++ spliced bytes (end_of c.0) cs)

abbrev pub rounded_under : ℕ → ℕ → List ℕ → Node → Result (List ℕ) PointFault
rounded_under digits finer bytes root =
    ok_then (all_or_fault (new_text digits finer) (all_coordinates root))
    (λ changes. Ok (spliced bytes 0 changes))

-- the text with its points on a grid of so many decimals, 10^finer times as fine again
abbrev pub rounded_points : ℕ → ℕ → List ℕ → Result (List ℕ) PointFault
rounded_points digits finer bytes = rounded_under digits finer bytes (whole_value bytes)
