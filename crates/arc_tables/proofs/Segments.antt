-- When an edge is of a segment, and how often a segment stands.
use Rattle.kit_words.proofs.Common.{◌≡◌, ℕ, ◌≤◌, true, refl, List, [], ◌∷◌, ◌⊎◌, arith, Result, Ok, Err, IfOk, OnOk}
use Rattle.kit_words.proofs.Common.{OnErr, nat_tests}
use Rattle.arc_tables.specs.Common.{Edge, links, is_seg, times, Once}

-- the ends of an edge of the segment
pub ends_of : (a b : ℕ) (e : Edge) → is_seg a b e ≡ true → ((e.0 ≡ a) × (e.1 ≡ b)) ⊎ ((e.0 ≡ b) × (e.1 ≡ a))
ends_of a b e h = grind (arith, nat_tests)

pub times_comm : (a b : ℕ) (es : List Edge) → times a b es ≡ times b a es
times_comm a b [] = refl
times_comm a b (e ∷ es) = grind (arith, times_comm a b es)

-- each segment of t stands where one of s stood, and no more often
abbrev pub StandsFor : (ℕ → List ℕ) → (ℕ → List ℕ) → ℕ → ℕ → Type 0
StandsFor s t c d = (a : ℕ) × (b : ℕ) × ((i : ℕ) → times c d (links (t i)) ≤ times a b (links (s i)))

pub once_for : (s t : ℕ → List ℕ) → ((c d : ℕ) → StandsFor s t c d) → Once s → Once t
once_for s t f h = record {
  apart = λ c d i j x y. let g = f c d in h.apart g.0 g.1 i j (omega (arith, g.2 i)) (omega (arith, g.2 j));
  single = λ c d i. let g = f c d in omega (arith, g.2 i, h.single g.0 g.1 i);
}

-- ---- answers of a call that may fail

pub if_ok_map : {X E : Type 0} {P Q : X → Type 0} (r : Result X E) → ((x : X) → P x → Q x) → IfOk r P → IfOk r Q
if_ok_map (Ok x) f p = f x p
if_ok_map (Err e) f p = tt

pub on_ok_map : {X E : Type 0} {P Q : Type 0} (r : Result X E) → (P → Q) → OnOk r P → OnOk r Q
on_ok_map r f p = if_ok_map r (λ x. f) p

pub on_err_map : {X E : Type 0} {P Q : Type 0} (r : Result X E) → (P → Q) → OnErr r P → OnErr r Q
on_err_map (Ok x) f p = tt
on_err_map (Err e) f p = f p

pub either_result : {X E : Type 0} {P Q R : Type 0} (r : Result X E) → (P → R) → (Q → R) → OnOk r P → OnErr r Q → R
either_result (Ok x) f g p q = f p
either_result (Err e) f g p q = g q
