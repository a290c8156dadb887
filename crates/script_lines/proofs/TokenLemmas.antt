-- A token ends in the last quotation mark of a line, and follows its space in one way.
use Rattle.kit_words.proofs.Common.{◌≡◌, ◌≢◌, ℕ, ◌+◌, ◌-◌, ◌%◌, ◌<◌, ◌≤◌, ◌^◌, Bool, true, false, refl, sym, ap, ap₂}
use Rattle.kit_words.proofs.Common.{◌∙◌, subst, List, [], ◌∷◌, ◌++◌, length, take, drop, ℤ, pos, negsuc, suc, arith}
use Rattle.kit_words.proofs.Common.{FitsSigned, w64, reverse, take_while, AllByRecursion, signed_decimal, nat_tests}
use Rattle.kit_words.proofs.Common.{decimal_by_steps, reverse-append, reverse-reverse, length-reverse, take_while-cons}
use Rattle.std.proofs.Common.{length-append}
use Rattle.std.specs.Fmt.{decimal}
use Rattle.grid_geometry.specs.Common.{Position, InRange}
use Rattle.script_lines.specs.Common.{spaced, spaced_position, spaced_path, is_unmarked, NoMark, IsToken}
use Rattle.script_lines.proofs.WordLemmas.{taken-rest, take_length, drop_length, fits_in_range}

-- ---- bytes with no quotation mark

NoMark-append : (bs cs : List ℕ) → NoMark bs → NoMark cs → NoMark (bs ++ cs)
NoMark-append [] cs h k = k
NoMark-append (b ∷ bs) cs h k = (h.0, NoMark-append bs cs h.1 k)

NoMark-reverse : (bs : List ℕ) → NoMark bs → NoMark (reverse bs)
NoMark-reverse [] h = tt
NoMark-reverse (b ∷ bs) h = subst NoMark (sym (reverse-append (b ∷ []) bs)) (NoMark-append (reverse bs) (b ∷ []) (NoMark-reverse bs h.1) (h.0, tt))

digit_unmarked : (b : ℕ) → 35 ≤ b → b ≢ 34
digit_unmarked b h e = omega arith

decimal_unmarked : (n : ℕ) → n < 2 ^ 64 → NoMark (decimal n)
decimal_unmarked n h =
    decimal_by_steps (λ m ds. NoMark ds) (λ m k. (digit_unmarked (48 + m) (omega arith), tt))
    (λ m ds k w. NoMark-append ds ((48 + m % 10) ∷ []) w (digit_unmarked (48 + m % 10) (omega arith), tt)) n h

number_unmarked : (z : ℤ) → FitsSigned w64 z → NoMark (signed_decimal z)
number_unmarked (pos n) f = let h : n < 2 ^ 63 = f.sfits in decimal_unmarked n (omega arith)
number_unmarked (negsuc n) f = let h : n < 2 ^ 63 = f.sfits in (digit_unmarked 45 (omega arith), decimal_unmarked (suc n) (omega arith))

spaced_unmarked : (z : ℤ) → FitsSigned w64 z → NoMark (spaced z)
spaced_unmarked z f = (λ e. absurd (omega arith), number_unmarked z f)

place_unmarked : (p : Position) → InRange p → NoMark (spaced_position p)
place_unmarked p h = NoMark-append (spaced p.x) (spaced p.y) (spaced_unmarked p.x (fits_in_range p.x h.across)) (spaced_unmarked p.y (fits_in_range p.y h.upward))

-- a path has no quotation mark
pub path_unmarked : (path : List Position) → AllByRecursion InRange path → NoMark (spaced_path path)
path_unmarked [] h = tt
path_unmarked (p ∷ ps) h = NoMark-append (spaced_position p) (spaced_path ps) (place_unmarked p h.0) (path_unmarked ps h.1)

-- ---- the part behind the last quotation mark, from its end on

abbrev taken : List ℕ → List ℕ
taken bs = take_while is_unmarked bs

is_taken : (b : ℕ) → b ≢ 34 → is_unmarked b ≡ true
is_taken b h = grind (arith, nat_tests)

taken_all : (bs : List ℕ) (r : List ℕ) → NoMark bs → taken (bs ++ (34 ∷ r)) ≡ bs
taken_all [] r h = rw (take_while-cons is_unmarked 34 r) refl
taken_all (b ∷ bs) r h = rw (take_while-cons is_unmarked b (bs ++ (34 ∷ r)), is_taken b h.0) (ap (λ t. b ∷ t) (taken_all bs r h.1))

taken_unmarked : (bs : List ℕ) → NoMark (taken bs)
taken_unmarked [] = tt
taken_unmarked (b ∷ bs) = by (is_unmarked b) refl (taken_unmarked bs)
  where
    mark : is_unmarked b ≡ true → b ≢ 34
    mark e f = let h : is_unmarked 34 ≡ true = subst (λ x. is_unmarked x ≡ true) f e in cc

    by : (t : Bool) → is_unmarked b ≡ t → NoMark (taken bs) → NoMark (taken (b ∷ bs))
    by true e k = rw (take_while-cons is_unmarked b bs, e) (mark e, k)
    by false e k = rw (take_while-cons is_unmarked b bs, e) tt

no_mark : (b : ℕ) → is_unmarked b ≡ false → b ≡ 34
no_mark b e = grind (arith, nat_tests)

-- nothing, or what stopped the taking: a quotation mark
abbrev Stop : List ℕ → Type 0
Stop [] = Unit {0}
Stop (x ∷ xs) = x ≡ 34

stopped : (bs : List ℕ) → Stop (drop (length (taken bs)) bs)
stopped [] = tt
stopped (b ∷ bs) = by (is_unmarked b) refl (stopped bs)
  where
    by : (t : Bool) → is_unmarked b ≡ t → Stop (drop (length (taken bs)) bs) → Stop (drop (length (taken (b ∷ bs))) (b ∷ bs))
    by true e k = rw (take_while-cons is_unmarked b bs, e) k
    by false e k = rw (take_while-cons is_unmarked b bs, e) (no_mark b e)

-- ---- a token that is found

-- a list that begins with a quotation mark does so up to its last one too
begun : (before rest more : List ℕ) → (before ++ 34 ∷ []) ++ rest ≡ 34 ∷ more → (behind : List ℕ) × (before ++ 34 ∷ [] ≡ 34 ∷ behind)
begun [] rest more e = ([], refl)
begun (b ∷ bs) rest more e = let h : b ≡ 34 = cc in (bs ++ 34 ∷ [], ap (λ y. y ∷ (bs ++ 34 ∷ [])) h)

cut : (tail more u w : List ℕ) → tail ≡ 34 ∷ more → tail ≡ reverse w ++ reverse u → NoMark u → Stop w → IsToken (32 ∷ tail) (reverse w) (reverse u)
cut tail more u [] e whole none stop = absurd ((subst NoMark (sym whole ∙ e) (NoMark-reverse u none)).0 refl)
cut tail more u (x ∷ xs) e whole none stop =
    let ends : reverse (x ∷ xs) ≡ reverse xs ++ 34 ∷ [] = reverse-append (x ∷ []) xs ∙ ap (λ y. reverse xs ++ y ∷ []) stop in
    let begins = begun (reverse xs) (reverse u) more (ap (λ t. t ++ reverse u) (sym ends) ∙ sym whole ∙ e) in
    record {
      whole = ap (λ t. 32 ∷ t) whole;
      marked = record { behind = begins.0; before = reverse xs; begins = ends ∙ begins.1; ends = ends };
      last = NoMark-reverse u none;
    }

-- after a space and a quotation mark a token is found
pub token_found : (tail more token rest : List ℕ) (n : ℕ) → tail ≡ 34 ∷ more → n ≡ length (take_while is_unmarked (reverse tail)) → token ≡ take (length tail - n) tail
    → rest ≡ drop (length tail - n) tail → IsToken (32 ∷ tail) token rest
token_found tail more token rest n e is t r =
    let u = taken (reverse tail) in
    let w = drop (length u) (reverse tail) in
    let whole : tail ≡ reverse w ++ reverse u = sym (reverse-reverse tail) ∙ ap reverse (sym (taken-rest is_unmarked (reverse tail))) ∙ reverse-append u w in
    let len : length tail - n ≡ length (reverse w) = omega (arith, ap length whole, length-append (reverse w) (reverse u), length-reverse u) in
    let token-is : token ≡ reverse w = t ∙ ap₂ (λ k z. take k z) len whole ∙ take_length (reverse w) (reverse u) in
    let rest-is : rest ≡ reverse u = r ∙ ap₂ (λ k z. drop k z) len whole ∙ drop_length (reverse w) (reverse u) in
    subst (λ x. IsToken (32 ∷ tail) x rest) (sym token-is) (subst (λ y. IsToken (32 ∷ tail) (reverse w) y) (sym rest-is) (cut tail more u w e whole (taken_unmarked (reverse tail)) (stopped (reverse tail))))

-- ---- a token in one way alone

-- how many bytes follow the last quotation mark
unmarked : (bs before rest : List ℕ) → bs ≡ (before ++ 34 ∷ []) ++ rest → NoMark rest → length (taken (reverse bs)) ≡ length rest
unmarked bs before rest e none =
    let back : reverse bs ≡ reverse rest ++ (34 ∷ reverse before) = ap reverse e ∙ reverse-append (before ++ 34 ∷ []) rest ∙ ap (λ t. reverse rest ++ t) (reverse-append before (34 ∷ [])) in
    ap length (ap taken back ∙ taken_all (reverse rest) (reverse before) (NoMark-reverse rest none)) ∙ length-reverse rest

front_is : (bs token rest : List ℕ) → IsToken bs token rest
    → (32 ∷ token ≡ take (length bs - length (taken (reverse bs))) bs) × (rest ≡ drop (length bs - length (taken (reverse bs))) bs)
front_is bs token rest s =
    let m = s.marked in
    let count = unmarked bs (32 ∷ m.before) rest (s.whole ∙ ap (λ t. (32 ∷ t) ++ rest) m.ends) s.last in
    let len : length bs - length (taken (reverse bs)) ≡ length (32 ∷ token) = omega (arith, count, ap length s.whole, length-append (32 ∷ token) rest) in (
      sym (ap₂ (λ k z. take k z) len s.whole ∙ take_length (32 ∷ token) rest),
      sym (ap₂ (λ k z. drop k z) len s.whole ∙ drop_length (32 ∷ token) rest),
    )

same_token : (t u : List ℕ) → 32 ∷ t ≡ 32 ∷ u → t ≡ u
same_token t u e = cc

pub token_once : (bs t u r s : List ℕ) → IsToken bs t r → IsToken bs u s → (t ≡ u) × (r ≡ s)
token_once bs t u r s h k =
    let a = front_is bs t r h in
    let b = front_is bs u s k in
    (same_token t u (a.0 ∙ sym b.0), a.1 ∙ sym b.1)
