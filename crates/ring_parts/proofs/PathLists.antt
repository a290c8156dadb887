-- A list of positions as a path, and positions that stand in it twice.
use Rattle.kit_words.proofs.Common.{◌≡◌, ℕ, suc, ◌+◌, ◌-◌, ◌<◌, ◌≤◌, true, false, refl, sym, ap, ap₂, ◌∙◌, List, []}
use Rattle.kit_words.proofs.Common.{◌∷◌, ◌++◌, length, take, drop, get_or, ◌&&◌, arith, drop_of_length-le, not}
use Rattle.kit_words.proofs.Common.{at_drop_more}
use Rattle.grid_geometry.specs.Common.{Position}
use Rattle.ring_machine.specs.Common.{has, is_distinct, Path, path_of}

abbrev path_over : Position → List Position → Position → Path
path_over p inner q = record { first = p; inner = inner; last = q }

path_at : (p : Position) (inner : List Position) (q : Position) → path_of (p ∷ inner ++ q ∷ []) ≡ path_over p inner q
path_at p [] q = refl
path_at p (r ∷ []) q = refl
path_at p (r ∷ s ∷ inner) q = ap (λ (rest : Path). record rest { inner = r ∷ rest.inner }) (path_at p (s ∷ inner) q)

-- up to the last one
ending : (ps : List Position) (q : Position) → 1 ≤ length ps → q ≡ get_or ps (length ps - 1) q → take (length ps - 1) ps ++ q ∷ [] ≡ ps
ending [] q l e = absurd (omega arith)
ending (p ∷ []) q l e = ap (λ r. r ∷ []) e
ending (p ∷ r ∷ ps) q l e =
    let k : length (p ∷ r ∷ ps) - 1 ≡ suc (length (r ∷ ps) - 1) = omega arith in
    ap (λ n. take n (p ∷ r ∷ ps) ++ q ∷ []) k ∙ ap (λ rs. p ∷ rs) (ending (r ∷ ps) q (omega arith) (e ∙ ap (λ n. get_or (p ∷ r ∷ ps) n q) k))

-- the list from its first position, those between, and its last
pub whole : (ps : List Position) (p q : Position) → 2 ≤ length ps → p ≡ get_or ps 0 p → q ≡ get_or ps (length ps - 1) q → p ∷ take (length ps - 1 - 1) (drop 1 ps) ++ q ∷ [] ≡ ps
whole [] p q l e f = absurd (omega arith)
whole (r ∷ []) p q l e f = absurd (omega arith)
whole (r ∷ s ∷ ps) p q l e f =
    let k : length (r ∷ s ∷ ps) - 1 ≡ suc (length (s ∷ ps) - 1) = omega arith in
    let m : length (r ∷ s ∷ ps) - 1 - 1 ≡ length (s ∷ ps) - 1 = omega arith in
    ap₂ (λ t ts. t ∷ ts) e (ap (λ n. take n (s ∷ ps) ++ q ∷ []) m ∙ ending (s ∷ ps) q (omega arith) (f ∙ ap (λ n. get_or (r ∷ s ∷ ps) n q) k))

pub path_is : (ps : List Position) (p q : Position) → 2 ≤ length ps → p ≡ get_or ps 0 p → q ≡ get_or ps (length ps - 1) q → path_over p (take (length ps - 1 - 1) (drop 1 ps)) q ≡ path_of ps
path_is ps p q l e f = sym (path_at p (take (length ps - 1 - 1) (drop 1 ps)) q) ∙ ap path_of (whole ps p q l e f)

-- ---- twice

distinct_step : (ps : List Position) (i : ℕ) (p : Position) → i < length ps → p ≡ get_or ps i p → is_distinct (drop i ps) ≡ (not (has (drop (i + 1) ps) p) && is_distinct (drop (i + 1) ps))
distinct_step ps i p l e = at_drop_more is_distinct ps i p l ∙ ap (λ q. not (has (drop (i + 1) ps) q) && is_distinct (drop (i + 1) ps)) (sym e)

pub once_here : (ps : List Position) (i : ℕ) (p : Position) → i < length ps → p ≡ get_or ps i p → has (drop (i + 1) ps) p ≡ false → is_distinct (drop (i + 1) ps) ≡ is_distinct (drop i ps)
once_here ps i p l e h = sym (distinct_step ps i p l e ∙ ap (λ b. not b && is_distinct (drop (i + 1) ps)) h)

pub twice_here : (ps : List Position) (i : ℕ) (p : Position) → i < length ps → p ≡ get_or ps i p → has (drop (i + 1) ps) p ≡ true → is_distinct (drop i ps) ≡ false
twice_here ps i p l e h = distinct_step ps i p l e ∙ ap (λ b. not b && is_distinct (drop (i + 1) ps)) h

pub once_all : (ps : List Position) (i : ℕ) → length ps ≤ i → is_distinct (drop i ps) ≡ true
once_all ps i l = ap is_distinct (drop_of_length-le ps l)

pub ruleset twice = (once_here, twice_here, once_all)
