-- Going over brackets outside strings.
use Rattle.kit_words.proofs.Common.{◌≡◌, ℕ, zero, suc, ◌+◌, ◌-◌, ◌*◌, ◌%◌, ◌^◌, ◌<◌, ◌≤◌, List, [], ◌∷◌, ◌++◌, take, drop}
use Rattle.kit_words.proofs.Common.{refl, ap, ap₂, ◌∙◌, arith, Bool, true, false, not, cond, Some, map, prefix_len, count_by}
use Rattle.kit_words.proofs.Common.{nat_tests, sum_by-cons, length-take, mask_l, pow-le-pow_right, ones-mask_l}
use Rattle.std.proofs.lemmas.List.Sums.{count_by-le-length}
use Rattle.std.specs.Int.RustNames.{count_ones}
use Rattle.json_spans.specs.Common.{Plain, skip_step, part_len, is_unquoted, is_unclosed, opens, closes}
use Rattle.json_spans.proofs.Lanes.{mask_take}

-- the ones among the lowest bits are the lanes in front that pass
pub counted : (p : ℕ → Bool) (v : List ℕ) (k m : ℕ) → k ≤ 32 → m ≡ mask_l (map p v) → count_ones (m % (1 * 2 ^ k % 2 ^ 64)) ≡ count_by p (take k v)
counted p v k m le is =
    let low : 2 ^ k ≤ 2 ^ 32 = pow-le-pow_right (omega arith) le in
    let small : 1 * 2 ^ k % 2 ^ 64 ≡ 2 ^ k = omega (arith, low) in
    ap count_ones (ap₂ ◌%◌ is small ∙ mask_take p k v) ∙ ones-mask_l p (take k v)

-- the level after a byte
abbrev behind : ℕ → ℕ → ℕ
behind level x = (level + cond (opens x) 1 0) - cond (closes x) 1 0

plain_step : (sep level x : ℕ) → is_unquoted x ≡ true → cond (closes x) 1 0 < level → skip_step sep Plain level x ≡ Some (Plain, behind level x)
plain_step sep level x free lt = grind (arith, nat_tests)

in_front : (b : Bool) (k n : ℕ) → suc k ≤ cond b (1 + n) 0 → (b ≡ true) × (k ≤ n)
in_front true k n le = (refl, omega arith)
in_front false k n le = absurd (omega arith)

unchanged : (sep level : ℕ) (xs : List ℕ) → part_len sep Plain level xs ≡ 0 + part_len sep Plain ((level + 0) - 0) xs
unchanged sep level xs =
    let same : level ≡ (level + 0) - 0 = omega arith in
    ap (λ n. part_len sep Plain n xs) same ∙ nothing (part_len sep Plain ((level + 0) - 0) xs)
  where
    nothing : (n : ℕ) → n ≡ 0 + n
    nothing n = omega arith

counts : (p : ℕ → Bool) (k x : ℕ) (xs : List ℕ) → count_by p (take (suc k) (x ∷ xs)) ≡ cond (p x) 1 0 + count_by p (take k xs)
counts p k x xs = sum_by-cons (λ y. cond (p y) 1 0) x (take k xs)

nested : (k sep level : ℕ) (v rest : List ℕ) → k ≤ prefix_len is_unquoted v → count_by closes (take k v) < level →
    part_len sep Plain level (v ++ rest) ≡ k + part_len sep Plain ((level + count_by opens (take k v)) - count_by closes (take k v)) (drop k (v ++ rest))
unfolding part_len
nested zero sep level v rest le lt = unchanged sep level (v ++ rest)
nested (suc k) sep level [] rest le lt = absurd (omega arith)
nested (suc k) sep level (x ∷ xs) rest le lt =
    let front = in_front (is_unquoted x) k (prefix_len is_unquoted xs) le in
    let shut = counts closes k x xs in
    let wide = counts opens k x xs in
    let step = plain_step sep level x front.0 (omega arith) in
    let h = nested k sep (behind level x) xs rest front.1 (omega arith) in
    let same : (behind level x + count_by opens (take k xs)) - count_by closes (take k xs) ≡ (level + count_by opens (take (suc k) (x ∷ xs))) - count_by closes (take (suc k) (x ∷ xs)) = omega arith in
    let on : part_len sep Plain (behind level x) (xs ++ rest) ≡ k + part_len sep Plain ((level + count_by opens (take (suc k) (x ∷ xs))) - count_by closes (take (suc k) (x ∷ xs))) (drop k (xs ++ rest)) = h ∙ ap (λ n. k + part_len sep Plain n (drop k (xs ++ rest))) same in
    rw step (omega (arith, on))

opens_first : (b : Bool) (k n : ℕ) → suc k ≤ cond (not b) (1 + n) 0 → (b ≡ false) × (k ≤ n)
opens_first true k n le = absurd (omega arith)
opens_first false k n le = (refl, omega arith)

no_bit : (b : Bool) → b ≡ false → cond b 1 0 ≤ 0
no_bit true e = absurd cc
no_bit false e = omega arith

open_step : (sep level x : ℕ) → is_unquoted x ≡ true → closes x ≡ false → 0 < level → skip_step sep Plain level x ≡ Some (Plain, level + cond (opens x) 1 0)
open_step sep level x free open_ lt = grind (arith, nat_tests)

-- the same where brackets open in the first j lanes, and none closes there
led : (j k sep level : ℕ) (v rest : List ℕ) → k ≤ prefix_len is_unquoted v → j ≤ prefix_len is_unclosed v → 0 < level → count_by closes (take k v) < level + count_by opens (take j v) →
    part_len sep Plain level (v ++ rest) ≡ k + part_len sep Plain ((level + count_by opens (take k v)) - count_by closes (take k v)) (drop k (v ++ rest))
unfolding part_len
led j zero sep level v rest le lj some lt = unchanged sep level (v ++ rest)
led zero (suc k) sep level v rest le lj some lt = nested (suc k) sep level v rest le (omega arith)
led (suc j) (suc k) sep level [] rest le lj some lt = absurd (omega arith)
led (suc j) (suc k) sep level (x ∷ xs) rest le lj some lt =
    let front = in_front (is_unquoted x) k (prefix_len is_unquoted xs) le in
    let first = opens_first (closes x) j (prefix_len is_unclosed xs) lj in
    let bit : cond (closes x) 1 0 ≤ 0 = no_bit (closes x) first.0 in
    let shut = counts closes k x xs in
    let wide = counts opens k x xs in
    let lead = counts opens j x xs in
    let step = open_step sep level x front.0 first.0 some in
    let h = led j k sep (level + cond (opens x) 1 0) xs rest front.1 first.1 (omega arith) (omega arith) in
    let same : ((level + cond (opens x) 1 0) + count_by opens (take k xs)) - count_by closes (take k xs) ≡ (level + count_by opens (take (suc k) (x ∷ xs))) - count_by closes (take (suc k) (x ∷ xs)) = omega arith in
    let on : part_len sep Plain (level + cond (opens x) 1 0) (xs ++ rest) ≡ k + part_len sep Plain ((level + count_by opens (take (suc k) (x ∷ xs))) - count_by closes (take (suc k) (x ∷ xs))) (drop k (xs ++ rest)) = h ∙ ap (λ n. k + part_len sep Plain n (drop k (xs ++ rest))) same in
    rw step (omega (arith, on))

-- so many do not close
pub remains : (j k level : ℕ) (v : List ℕ) → j ≤ prefix_len is_unclosed v → 0 < level → count_by closes (take k v) < level + count_by opens (take j v) → count_by closes (take k v) ≤ level + count_by opens (take k v)
remains j zero level v lj some lt = omega arith
remains zero (suc k) level v lj some lt = omega arith
remains (suc j) (suc k) level [] lj some lt = absurd (omega arith)
remains (suc j) (suc k) level (x ∷ xs) lj some lt =
    let first = opens_first (closes x) j (prefix_len is_unclosed xs) lj in
    let bit : cond (closes x) 1 0 ≤ 0 = no_bit (closes x) first.0 in
    let shut = counts closes k x xs in
    let wide = counts opens k x xs in
    let lead = counts opens j x xs in
    let h = remains j k (level + cond (opens x) 1 0) xs first.1 (omega arith) (omega arith) in
    omega arith

-- the same of the bytes that a block was taken of
pub nested_in : (j k sep level lead shut wide level' : ℕ) (v rest xs : List ℕ) → xs ≡ v ++ rest → k ≤ prefix_len is_unquoted v → j ≡ prefix_len is_unclosed v → lead ≡ count_by opens (take j v) → shut ≡ count_by closes (take k v) → wide ≡ count_by opens (take k v) → level' ≡ (level + wide) - shut → 0 < level → shut < level + lead →
    part_len sep Plain level xs ≡ k + part_len sep Plain level' (drop k xs)
nested_in j k sep level lead shut wide level' v rest xs whole le lj l s o is some lt = rw (whole, is, s, o) (led j k sep level v rest le (omega arith) some (omega arith))

pub remains_in : (j k level lead shut wide : ℕ) (v : List ℕ) → j ≡ prefix_len is_unclosed v → lead ≡ count_by opens (take j v) → shut ≡ count_by closes (take k v) → wide ≡ count_by opens (take k v) → 0 < level → shut < level + lead → shut ≤ level + wide
remains_in j k level lead shut wide v lj l s o some lt = omega (arith, remains j k level v (omega arith) some (omega arith))

pub few : (p : ℕ → Bool) (k n : ℕ) (v : List ℕ) → n ≡ count_by p (take k v) → n ≤ k
few p k n v is = omega (arith, count_by-le-length p (take k v), length-take k v)
