-- The root, rounded down, is the only number whose square is at most n and the next one's is above.
use Rattle.kit_words.proofs.Common.{◌≡◌, ℕ, zero, suc, ◌+◌, ◌*◌, ◌/◌, ◌^◌, ◌<◌, ◌≤◌, Bool, true, false, refl, inl, inr, arith, cond, leb, cases_lt}
use Rattle.kit_words.proofs.Common.{pow-suc, leb-true, leb-false, mul-le-mul}
use Rattle.kit_words.proofs.Common.{sym, ap, ap₂, ◌∙◌, ◌-ℤ◌}
use Rattle.grid_geometry.specs.Common.{Segment}
use Rattle.layer_faces.specs.Lengths.{length_of, root, square}

-- r is the root of n, rounded down
abbrev pub IsRoot : ℕ → ℕ → Type 0
IsRoot n r = (r * r ≤ n) × (n < (r + 1) * (r + 1))

next : (n q s : ℕ) → q ≡ n / 4 → IsRoot q s → IsRoot n (cond (leb ((2 * s + 1) * (2 * s + 1)) n) (2 * s + 1) (2 * s))
next n q s e h = by (leb ((2 * s + 1) * (2 * s + 1)) n) refl
  where
    by : (b : Bool) → leb ((2 * s + 1) * (2 * s + 1)) n ≡ b → IsRoot n (cond b (2 * s + 1) (2 * s))
    by true t = let le : (2 * s + 1) * (2 * s + 1) ≤ n = leb-true _ _ t in (omega arith, omega arith)
    by false t = let lt : n < (2 * s + 1) * (2 * s + 1) = leb-false _ _ t in (omega arith, omega arith)

pub root_is : (k n : ℕ) → n < 4 ^ k → IsRoot n (root k n)
unfolding root
root_is zero n l = (omega arith, omega arith)
root_is (suc k) n l =
    let small : n / 4 < 4 ^ k = omega (arith, pow-suc 4 k) in next n (n / 4) (root k (n / 4)) refl (root_is k (n / 4) small)

less : (n r s : ℕ) → IsRoot n r → IsRoot n s → r < s → ⊥
less n r s h k l = let grows = mul-le-mul {n₁ = r + 1} {m₁ = r + 1} {n₂ = s} {m₂ = s} (omega arith) (omega arith) in omega arith

pub one_root : (n r s : ℕ) → IsRoot n r → IsRoot n s → r ≡ s
one_root n r s h k = elim (cases_lt r s) [
  | inl l ↦ absurd (less n r s h k l)
  | inr l ↦ elim (cases_lt s r) [ inl m ↦ absurd (less n s r k h m) | inr m ↦ omega arith ]
]

-- the length of a segment, by the squares of how far its ends are apart
pub length_is : (s t : Segment) (r across upward : ℕ) → s ≡ t → across ≡ square (t.hi.x -ℤ t.lo.x) → upward ≡ square (t.hi.y -ℤ t.lo.y)
    → across ≤ 4000000000000000000000000 → upward ≤ 4000000000000000000000000
    → r * r ≤ (across + upward) * 4294967296 → (across + upward) * 4294967296 < (r + 1) * (r + 1) → r ≡ length_of s
length_is s t r across upward same e f few_across few_upward low high =
    let n = (across + upward) * 4294967296 in
    let small : n < 4 ^ 58 = omega arith in
    one_root n r (root 58 n) (low, high) (root_is 58 n small)
    ∙ ap₂ (λ a b. root 58 ((a + b) * 4294967296)) e f
    ∙ ap length_of (sym same)
