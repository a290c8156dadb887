-- Numbers as they are read.
use Rattle.std.specs.Prelude.{ℕ, ℤ, pos, ◌+◌, ◌*◌, ◌/◌, ◌%◌, ◌==◌, ◌&&◌, nat_lt, int_lt, if◌then◌else◌, List, [], ◌∷◌, ◌++◌, length, replicate, codes, Option, Some, None, unsigned_abs}
use Rattle.std.specs.Fmt.{decimal}
use Rattle.std.specs.Ordering.{int_eq}

-- the comma before so many digits: where they are whole groups of three
abbrev pub comma_before : ℕ → List ℕ
comma_before left = if nat_lt 0 left && left % 3 == 0 then codes "," else []

-- digits in groups of three, from the right
abbrev pub grouped : List ℕ → List ℕ
grouped [] = []
grouped (d ∷ digits) = d ∷ (comma_before (length digits) ++ grouped digits)

abbrev pub zeros : ℕ → List ℕ
zeros count = replicate count 48

-- what stands behind the whole half of a number that leaves this rest
abbrev pub half_behind : ℕ → List ℕ
half_behind rest = if rest == 1 then codes ".5" else []

-- half of a number
abbrev pub half_text : ℕ → List ℕ
half_text twice = grouped (decimal (twice / 2)) ++ half_behind (twice % 2)

-- the sign of a number: none of 0
abbrev pub sign_of : ℤ → List ℕ
sign_of number = if int_lt number (pos 0) then codes "-" else (if int_eq number (pos 0) then [] else codes "+")

-- how many hundredths of a percent a part is of a whole, rounded down
abbrev pub hundredths_of : ℕ → ℕ → Option ℕ
hundredths_of part whole = if whole == 0 then None else Some (part * 10000 / whole)

-- hundredths of a percent, written in percent with two decimals
abbrev pub percent_of : ℕ → List ℕ
percent_of share = decimal (share / 100) ++ (codes "." ++ (decimal (share % 100 / 10) ++ (decimal (share % 100 % 10) ++ codes "%")))

-- hundredths of a percent behind a sign; nothing where there are none
abbrev pub shown_share : List ℕ → Option ℕ → List ℕ
shown_share sign None = []
shown_share sign (Some share) = sign ++ percent_of share

-- a difference in percent of the whole; nothing where the whole is 0
abbrev pub percent_text : ℤ → ℤ → List ℕ
percent_text difference whole =
    shown_share (sign_of difference) (hundredths_of (unsigned_abs difference) (unsigned_abs whole))
