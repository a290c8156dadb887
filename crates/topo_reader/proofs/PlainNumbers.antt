-- A number read digit by digit is the whole number of its word.
use Rattle.kit_words.proofs.Common.{rules, to_z, of_z, ◌≡◌, ℕ, zero, suc, ◌+◌, ◌-◌, ◌*◌, ◌<◌, ◌^◌, nat_lt, nat_le, List}
use Rattle.kit_words.proofs.Common.{[], ◌∷◌, ◌++◌, length, take, drop, get_or, true, refl, ap, ◌∙◌, arith, add-one, ℤ}
use Rattle.kit_words.proofs.Common.{pos, ◌-ℤ◌, Some, Ok, list_all, prefix_len, nat_tests, take_all, drop_all}
use Rattle.kit_words.proofs.Common.{list_all-append, take-suc, to_z_pos, to_z-of_z, ints, and_parts}
use Rattle.json_spans.specs.Common.{is_digit, value_from, digits_len, whole_digits, whole_of}
use Rattle.json_spans.specs.Whole.{minus}
use Rattle.json_spans.proofs.Common.{digit_no_minus}
use Rattle.topo_reader.specs.Common.{is_plain, PlainDigits, PlainNumber}
use mir.Syntax.{w64}
use mir.Val.{SFits}

-- ---- one digit more

pub one_more : (n : ℕ) (xs : List ℕ) (x : ℕ) → value_from n (xs ++ x ∷ []) ≡ value_from n xs * 10 + (x - 48)
unfolding value_from
one_more n [] x = refl
one_more n (y ∷ xs) x = one_more (n * 10 + (y - 48)) xs x

pub value_more : (xs : List ℕ) (i : ℕ) → i < length xs → value_from 0 (take (i + 1) xs) ≡ value_from 0 (take i xs) * 10 + (get_or xs i 0 - 48)
value_more xs i lt = rw (add-one i, take-suc xs i 0 lt) (one_more 0 (take i xs) (get_or xs i 0))

pub digits_more : (xs : List ℕ) (i : ℕ) → i < length xs → is_digit (get_or xs i 0) ≡ true → list_all is_digit (take i xs) ≡ true → list_all is_digit (take (i + 1) xs) ≡ true
digits_more xs i lt here before = rw (add-one i, take-suc xs i 0 lt, list_all-append is_digit (take i xs) (get_or xs i 0 ∷ []), before, here) refl

-- ---- the word

digit_plain : (x : ℕ) → is_digit x ≡ true → is_plain x ≡ true
digit_plain x e = grind (arith, nat_tests)

digits_plain : (xs : List ℕ) → list_all is_digit xs ≡ true → list_all is_plain xs ≡ true
digits_plain [] e = refl
digits_plain (x ∷ xs) e =
    let both = and_parts (is_digit x) (list_all is_digit xs) e in
    rw (digit_plain x both.0) (digits_plain xs both.1)

all_digits : (xs : List ℕ) → list_all is_digit xs ≡ true → prefix_len is_digit xs ≡ length xs
all_digits [] e = refl
all_digits (x ∷ xs) e =
    let both = and_parts (is_digit x) (list_all is_digit xs) e in
    rw (both.0, all_digits xs both.1) (omega arith)

digits_whole : (x : ℕ) (xs : List ℕ) → list_all is_digit (x ∷ xs) ≡ true → whole_digits (x ∷ xs) ≡ Some (x ∷ xs)
digits_whole x xs e =
    let word : List ℕ = x ∷ xs in
    let len : digits_len word ≡ length word = all_digits word e in
    let none : drop (length word) word ≡ [] = drop_all (length word) word (omega arith) in
    let all : take (length word) word ≡ word = take_all (length word) word (omega arith) in
    let some : nat_lt 0 (length word) ≡ true = grind (arith, nat_tests) in
    rw (len, none, all, some) refl

digits_read : (xs : List ℕ) → list_all is_digit xs ≡ true → 0 < length xs → value_from 0 xs < 10 ^ 18 → whole_of xs ≡ Ok (pos (value_from 0 xs))
digits_read [] e some small = absurd (omega arith)
digits_read (x ∷ xs) e some small =
    let both = and_parts (is_digit x) (list_all is_digit xs) e in
    let fits : nat_lt (value_from 0 (x ∷ xs)) (2 ^ 63) ≡ true = grind (arith, nat_tests) in
    rw (digit_no_minus x both.0, digits_whole x xs e, fits) refl

minus_read : (xs : List ℕ) → list_all is_digit xs ≡ true → 0 < length xs → value_from 0 xs < 10 ^ 18 → whole_of (45 ∷ xs) ≡ Ok (minus (value_from 0 xs))
minus_read [] e some small = absurd (omega arith)
minus_read (x ∷ xs) e some small =
    let fits : nat_le (value_from 0 (x ∷ xs)) (2 ^ 63) ≡ true = grind (arith, nat_tests) in
    rw (digits_whole x xs e, fits) refl

-- digits are the number that they give
pub unsigned_number : (bytes : List ℕ) (value : ℕ) (z : ℤ) (rest : List ℕ) → PlainDigits bytes value rest → z ≡ pos value → PlainNumber bytes z rest
unsigned_number bytes value z rest d e = record {
  word = d.digits;
  is = d.is;
  plain = digits_plain d.digits d.are;
  number = rw (e, d.value_is) (digits_read d.digits d.are d.some (omega (arith, d.value_is, d.small)));
}

-- with a minus in front they are its opposite
pub minus_number : (bytes body : List ℕ) (value : ℕ) (z : ℤ) (rest : List ℕ) → bytes ≡ 45 ∷ body → PlainDigits body value rest → z ≡ minus value → PlainNumber bytes z rest
minus_number bytes body value z rest is d e = record {
  word = 45 ∷ d.digits;
  is = is ∙ ap (λ (w : List ℕ). 45 ∷ w) d.is;
  plain = digits_plain d.digits d.are;
  number = rw (e, d.value_is) (minus_read d.digits d.are d.some (omega (arith, d.value_is, d.small)));
}

-- ---- in sixty-four bits

negated : (n : ℕ) → pos 0 -ℤ pos n ≡ minus n
negated zero = refl
negated (suc n) = omega (arith, ints)

pub kept : (n : ℕ) → n < 10 ^ 18 → to_z w64 n ≡ pos n
kept n small = to_z_pos w64 n (omega arith)

pub opposite : (n : ℕ) → n < 10 ^ 18 → to_z w64 (of_z w64 (pos 0 -ℤ to_z w64 n)) ≡ minus n
opposite n small =
    let fits : SFits w64 (pos 0 -ℤ pos n) = search rules in
    rw (kept n small) (to_z-of_z w64 (pos 0 -ℤ pos n) fits ∙ negated n)
