-- A list has no more items than bytes, and what stands inside is no longer than the whole.
use Rattle.kit_words.proofs.Common.{ℕ, suc, ◌+◌, ◌≤◌, List, [], ◌∷◌, ◌++◌, length, arith, AllByRecursion, length-append}
use Rattle.json_spans.specs.Common.{Node, Padded, padded, Pair, pair, Parted, last_part, next_part, Bracketed, no_part}
use Rattle.json_spans.specs.Common.{parts, IsListOf, IsObjectOf}

-- ---- as many as bytes

parted_count : {X : Type 0} {P : ℕ → List ℕ → X → Type 0} {close place : ℕ} {bytes : List ℕ} {xs : List X} → Parted P close place bytes xs → length xs ≤ length bytes
parted_count {close = close} (last_part {part = part} p) = omega (arith, length-append part (close ∷ []))
parted_count (next_part {part = part} {rest = rest} p q) = omega (arith, parted_count q, length-append part (44 ∷ rest))

bracketed_count : {X : Type 0} {P : ℕ → List ℕ → X → Type 0} {start close place : ℕ} {bytes : List ℕ} {xs : List X} → Bracketed P start close place bytes xs → length xs ≤ length bytes
bracketed_count (no_part s) = omega arith
bracketed_count (parts q) = omega (arith, parted_count q)

pub list_count : {node : Node} {is : List Node} → IsListOf node is → length is ≤ length node.bytes
list_count h = bracketed_count h.1

-- ---- no longer than the whole

pub padded_short : {A : List ℕ → Type 0} {place : ℕ} {bytes : List ℕ} {node : Node} → Padded A place bytes node → length node.bytes ≤ length bytes
padded_short (padded {front = front} {bytes = v} {back = back} a h b) = omega (arith, length-append front (v ++ back), length-append v back)

value_short : (n place : ℕ) (part : List ℕ) (m : Node × Node) → Pair n place part m → length m.1.bytes ≤ length part
value_short n place part m (pair {front = front} {back = back} a b) = omega (arith, padded_short b, length-append front (58 ∷ back))

parted_short : {X : Type 0} {P : ℕ → List ℕ → X → Type 0} {close place : ℕ} {bytes : List ℕ} {xs : List X} → (long : X → ℕ) → ((place : ℕ) (part : List ℕ) (x : X) → P place part x → long x ≤ length part) → (most : ℕ) → length bytes ≤ most → Parted P close place bytes xs → AllByRecursion (λ x. long x ≤ most) xs
parted_short {close = close} long h most le (last_part {place = place} {part = part} {x = x} p) = (omega (arith, h place part x p, length-append part (close ∷ [])), tt)
parted_short long h most le (next_part {place = place} {part = part} {rest = rest} {x = x} p q) = (
  omega (arith, h place part x p, length-append part (44 ∷ rest)),
  parted_short long h most (omega (arith, length-append part (44 ∷ rest))) q,
)

bracketed_short : {X : Type 0} {P : ℕ → List ℕ → X → Type 0} {start close place : ℕ} {bytes : List ℕ} {xs : List X} → (long : X → ℕ) → ((place : ℕ) (part : List ℕ) (x : X) → P place part x → long x ≤ length part) → Bracketed P start close place bytes xs → AllByRecursion (λ x. long x ≤ length bytes) xs
bracketed_short long h (no_part s) = tt
bracketed_short long h (parts {inside = inside} q) = parted_short long h (suc (length inside)) (omega arith) q

pub members_short : {node : Node} {ms : List (Node × Node)} → IsObjectOf node ms → AllByRecursion (λ m. length m.1.bytes ≤ length node.bytes) ms
members_short h = bracketed_short (λ m. length m.1.bytes) (value_short h.0) h.1
