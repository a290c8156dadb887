-- Going over bytes that neither open nor close nor escape.
use Rattle.kit_words.proofs.Common.{◌≡◌, ℕ, zero, suc, ◌+◌, ◌-◌, ◌<◌, ◌≤◌, List, [], ◌∷◌, ◌++◌, length, take, drop}
use Rattle.kit_words.proofs.Common.{refl, sym, ap, ◌∙◌, arith, Bool, true, false, not, cond, Some, prefix_len, count_by}
use Rattle.kit_words.proofs.Common.{nat_tests, drop-drop, take_all, length-drop, sum_by-cons}
use Rattle.json_spans.specs.Common.{Skip, Plain, Quoted, Escaped, skip_step, part_len, is_calm, is_quote, is_odd}
use Rattle.json_spans.specs.Common.{turned, is_escaped}

calm_step : (sep : ℕ) (s : Skip) (level x : ℕ) → is_calm x ≡ true → 0 < level → is_escaped s ≡ false → skip_step sep s level x ≡ Some (turned s (is_quote x), level)
calm_step sep Plain level x calm lt e = grind (arith, nat_tests)
calm_step sep Quoted level x calm lt e = grind (arith, nat_tests)
calm_step sep Escaped level x calm lt e = absurd cc

stays_free : (s : Skip) (b : Bool) → is_escaped s ≡ false → is_escaped (turned s b) ≡ false
stays_free Plain true e = refl
stays_free Plain false e = refl
stays_free Quoted true e = refl
stays_free Quoted false e = refl
stays_free Escaped b e = e

odd_suc : (n : ℕ) → is_odd (1 + n) ≡ not (is_odd n)
odd_suc n = grind (arith, nat_tests)

turned_twice : (s : Skip) (b : Bool) → turned (turned s true) b ≡ turned s (not b)
turned_twice Plain true = refl
turned_twice Plain false = refl
turned_twice Quoted true = refl
turned_twice Quoted false = refl
turned_twice Escaped b = refl

turned_none : (s : Skip) (b : Bool) → turned (turned s false) b ≡ turned s b
turned_none Plain b = refl
turned_none Quoted b = refl
turned_none Escaped b = refl

nothing : (n : ℕ) → n ≡ 0 + n
nothing n = omega arith

turns : (s : Skip) (q : Bool) (n : ℕ) → turned (turned s q) (is_odd n) ≡ turned s (is_odd (cond q 1 0 + n))
turns s true n = turned_twice s (is_odd n) ∙ ap (turned s) (sym (odd_suc n))
turns s false n = turned_none s (is_odd n) ∙ ap (λ m. turned s (is_odd m)) (nothing n)

in_front : (b : Bool) (k n : ℕ) → suc k ≤ cond b (1 + n) 0 → (b ≡ true) × (k ≤ n)
in_front true k n le = (refl, omega arith)
in_front false k n le = absurd (omega arith)

pub calm : (k : ℕ) (sep : ℕ) (s : Skip) (level : ℕ) (v rest : List ℕ) → k ≤ prefix_len is_calm v → 0 < level → is_escaped s ≡ false →
    part_len sep s level (v ++ rest) ≡ k + part_len sep (turned s (is_odd (count_by is_quote (take k v)))) level (drop k (v ++ rest))
unfolding part_len
calm zero sep s level v rest le lt e = ap (λ t. part_len sep t level (v ++ rest)) (none s) ∙ nothing (part_len sep (turned s false) level (v ++ rest))
  where
    none : (s : Skip) → s ≡ turned s false
    none Plain = refl
    none Quoted = refl
    none Escaped = refl
calm (suc k) sep s level [] rest le lt e = absurd (omega arith)
calm (suc k) sep s level (x ∷ xs) rest le lt e =
    let front = in_front (is_calm x) k (prefix_len is_calm xs) le in
    let step = calm_step sep s level x front.0 lt e in
    let h : part_len sep (turned s (is_quote x)) level (xs ++ rest) ≡ k + part_len sep (turned s (is_odd (count_by is_quote (take (suc k) (x ∷ xs))))) level (drop k (xs ++ rest)) =
    calm k sep (turned s (is_quote x)) level xs rest front.1 lt (stays_free s (is_quote x) e) ∙ ap (λ t. k + part_len sep t level (drop k (xs ++ rest))) (turns s (is_quote x) (count_by is_quote (take k xs))
    ∙ ap (λ n. turned s (is_odd n)) (sym (sum_by-cons (λ y. cond (is_quote y) 1 0) x (take k xs)))) in
    rw step (omega (arith, h))

-- the same of the bytes that a block was taken of
pub calm_in : (k sep : ℕ) (s t : Skip) (odd : Bool) (level : ℕ) (v rest xs : List ℕ) → xs ≡ v ++ rest → k ≡ prefix_len is_calm v → odd ≡ is_odd (count_by is_quote (take k v)) → t ≡ turned s odd → 0 < level → is_escaped s ≡ false →
    part_len sep s level xs ≡ k + part_len sep t level (drop k xs)
calm_in k sep s t odd level v rest xs whole is o u lt e = rw (whole, u, o) (calm k sep s level v rest (omega arith) lt e)

-- the bytes from a place on, as a slice has them
pub from_place : (i : ℕ) (xs : List ℕ) → take (length xs - i) (drop i xs) ≡ drop i xs
from_place i xs = take_all (length xs - i) (drop i xs) (omega (arith, length-drop i xs))

-- after bytes that are passed over, the whole is the same
pub moved_on : (sep : ℕ) (s t : Skip) (level level' i k : ℕ) (xs : List ℕ) (whole : ℕ) → i + part_len sep s level (drop i xs) ≡ whole → part_len sep s level (take (length xs - i) (drop i xs)) ≡ k + part_len sep t level' (drop k (take (length xs - i) (drop i xs))) → (i + k) + part_len sep t level' (drop (i + k) xs) ≡ whole
moved_on sep s t level level' i k xs whole e h =
    let h' : part_len sep s level (drop i xs) ≡ k + part_len sep t level' (drop k (drop i xs)) = rw (from_place i xs) at h in
    let same : part_len sep s level (drop i xs) ≡ k + part_len sep t level' (drop (i + k) xs) = h' ∙ ap (λ ys. k + part_len sep t level' ys) (drop-drop k i xs) in
    omega (arith, e, same)
