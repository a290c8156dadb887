-- A way and the places at which it is cut.
use Rattle.kit_words.proofs.Common.{◌≡◌, ℕ, zero, suc, ◌+◌, ◌-◌, ◌<◌, ◌≤◌, Bool, true, false, refl, sym, ap, ap₂, ◌∙◌}
use Rattle.kit_words.proofs.Common.{subst, List, [], ◌∷◌, ◌++◌, ◌||◌, if◌then◌else◌, take, drop, length, get_or, arith}
use Rattle.kit_words.proofs.Common.{pos, get_or-drop, length-drop, take_more}
use Rattle.std.proofs.Common.{append-nil}
use Rattle.grid_geometry.specs.Common.{Position, position}
use Rattle.topo_writer.specs.Common.{at_place, cut_between, cut_after, is_done, Rising}
use Rattle.topo_writer.proofs.Marks.{cut_step, round_start}

-- ---- places that rise

pub rising_more : (n m : ℕ) (cuts : List ℕ) → n ≤ m → Rising n cuts → Rising m cuts
rising_more n m [] l r = tt
rising_more n m (c ∷ []) l r = omega (arith, l, r)
rising_more n m (c ∷ d ∷ cuts) l r = (r.0, (omega (arith, l, r.1.0), rising_more n m (d ∷ cuts) l r.1.1))

rising_push : (n : ℕ) (cuts : List ℕ) → Rising n cuts → Rising (n + 1) (cuts ++ n ∷ [])
rising_push n [] r = omega arith
rising_push n (c ∷ []) r = (omega (arith, r), (omega arith, omega arith))
rising_push n (c ∷ d ∷ cuts) r = (r.0, (omega (arith, r.1.0), rising_push n (d ∷ cuts) r.1.1))

-- one place more, at which the way may be cut
pub rising_step : (i : ℕ) (ends : Bool) (cuts new : List ℕ) → new ≡ cuts ++ (if ends then (i ∷ []) else []) → Rising i cuts → Rising (i + 1) new
rising_step i true cuts new e r = subst (Rising (i + 1)) (sym e) (rising_push i cuts r)
rising_step i false cuts new e r = subst (Rising (i + 1)) (sym (e ∙ append-nil cuts)) (rising_more i (i + 1) cuts (omega arith) r)

rising_next : (n : ℕ) (cuts : List ℕ) (i x y : ℕ) → suc i < length cuts → Rising n cuts
    → (get_or cuts i x ≤ get_or cuts (suc i) y) × (get_or cuts (suc i) y < n)
rising_next n [] i x y l r = absurd (omega (arith, l))
rising_next n (c ∷ []) i x y l r = absurd (omega (arith, l))
rising_next n (c ∷ d ∷ cuts) zero x y l r = (r.0, r.1.0)
rising_next n (c ∷ d ∷ cuts) (suc i) x y l r = rising_next n (d ∷ cuts) i x y (omega (arith, l)) r.1.1

-- two places, one after the other
pub rising_at : (n : ℕ) (cuts : List ℕ) (i x y : ℕ) → i + 1 < length cuts → Rising n cuts → x ≡ get_or cuts i x
    → y ≡ get_or cuts (i + 1) y → (x ≤ y) × (y < n)
rising_at n cuts i x y l r e f =
    let one : suc i ≡ i + 1 = omega arith in
    let is : get_or cuts (suc i) y ≡ y = ap (λ z. get_or cuts z y) one ∙ sym f in
    let next = rising_next n cuts i x y (omega (arith, l)) r in
    (omega (arith, next.0, e, is), omega (arith, next.1, is))

-- ---- the parts between them

pub between_count : (way : List Position) (cuts : List ℕ) → length (cut_between way cuts) ≡ length cuts - 1
between_count way [] = refl
between_count way (c ∷ []) = refl
between_count way (c ∷ d ∷ cuts) = let k = between_count way (d ∷ cuts) in omega (arith, k)

between_next : (way : List Position) (cuts : List ℕ) (i x y : ℕ) (ps : List Position) → suc i < length cuts
    → get_or (cut_between way cuts) i ps ≡ take (get_or cuts (suc i) y + 1 - get_or cuts i x) (drop (get_or cuts i x) way)
between_next way [] i x y ps l = absurd (omega (arith, l))
between_next way (c ∷ []) i x y ps l = absurd (omega (arith, l))
between_next way (c ∷ d ∷ cuts) zero x y ps l = refl
between_next way (c ∷ d ∷ cuts) (suc i) x y ps l = between_next way (d ∷ cuts) i x y ps (omega (arith, l))

pub between_at : (way : List Position) (cuts : List ℕ) (i x y : ℕ) (ps : List Position) → i + 1 < length cuts
    → x ≡ get_or cuts i x → y ≡ get_or cuts (i + 1) y → take (y + 1 - x) (drop x way) ≡ get_or (cut_between way cuts) i ps
between_at way cuts i x y ps l e f =
    let one : suc i ≡ i + 1 = omega arith in
    let is : get_or cuts (suc i) y ≡ y = ap (λ z. get_or cuts z y) one ∙ sym f in
    sym (between_next way cuts i x y ps (omega (arith, l)) ∙ ap₂ (λ to from. take (to + 1 - from) (drop from way)) is (sym e))

-- what stands from the last place on, up to a place
abbrev pub open_part : List Position → ℕ → List ℕ → List Position
open_part way i [] = []
open_part way i (c ∷ []) = take (i - c) (drop c way)
open_part way i (c ∷ d ∷ cuts) = open_part way i (d ∷ cuts)

module _ (way : List Position) (i : ℕ) (l : i < length way) where
  between_push : (cuts : List ℕ) → 0 < length cuts → cut_between way (cuts ++ i ∷ []) ≡ cut_between way cuts ++ open_part way (i + 1) cuts ∷ []
  between_push [] s = absurd (omega (arith, s))
  between_push (c ∷ []) s = refl
  between_push (c ∷ d ∷ cuts) s = ap (λ z. take (d + 1 - c) (drop c way) ∷ z) (between_push (d ∷ cuts) (omega arith))

  open_more : (cuts : List ℕ) → 0 < length cuts → Rising i cuts → open_part way (i + 1) cuts ≡ open_part way i cuts ++ at_place way i ∷ []
  open_more [] s r = absurd (omega (arith, s))
  open_more (c ∷ []) s r =
      let n : i + 1 - c ≡ (i - c) + 1 = omega (arith, r) in
      let k : c + (i - c) ≡ i = omega (arith, r) in
      ap (λ z. take z (drop c way)) n
      ∙ take_more (drop c way) (i - c) (position (pos 0) (pos 0)) (omega (arith, l, r, length-drop c way))
      ∙ ap (λ z. take (i - c) (drop c way) ++ z ∷ []) (get_or-drop c way (i - c) (position (pos 0) (pos 0)) ∙ ap (at_place way) k)
  open_more (c ∷ d ∷ cuts) s r = open_more (d ∷ cuts) (omega arith) r.1.1

  open_fresh : (cuts : List ℕ) → open_part way (i + 1) (cuts ++ i ∷ []) ≡ at_place way i ∷ []
  open_fresh [] = let n : i + 1 - i ≡ 1 = omega arith in ap (λ z. take z (drop i way)) n ∙ round_start way i l
  open_fresh (c ∷ []) = open_fresh []
  open_fresh (c ∷ d ∷ cuts) = open_fresh (d ∷ cuts)

  -- what is cut, with what is cut of the rest, stays as it is when one goes on by one place
  pub place_step : (junction : Position → Bool) (ends : Bool) (cuts new : List ℕ) → 0 < length cuts → Rising i cuts
      → ends ≡ (is_done (drop (i + 1) way) || junction (at_place way i)) → new ≡ cuts ++ (if ends then (i ∷ []) else [])
      → cut_between way new ++ cut_after junction (open_part way (i + 1) new) (drop (i + 1) way)
      ≡ cut_between way cuts ++ cut_after junction (open_part way i cuts) (drop i way)
  place_step junction ends cuts new s r is e =
      cut_step junction way (open_part way i cuts) (open_part way (i + 1) new) (cut_between way cuts) (cut_between way new) i ends l is
      (ap (cut_between way) e ∙ cut_by ends) (ap (open_part way (i + 1)) e ∙ open_by ends)
    where
      cut_by : (b : Bool) → cut_between way (cuts ++ (if b then (i ∷ []) else []))
          ≡ cut_between way cuts ++ (if b then ((open_part way i cuts ++ at_place way i ∷ []) ∷ []) else [])
      cut_by true = between_push cuts s ∙ ap (λ z. cut_between way cuts ++ z ∷ []) (open_more cuts s r)
      cut_by false = ap (cut_between way) (append-nil cuts) ∙ sym (append-nil (cut_between way cuts))

      open_by : (b : Bool) → open_part way (i + 1) (cuts ++ (if b then (i ∷ []) else []))
          ≡ (if b then (at_place way i ∷ []) else (open_part way i cuts ++ at_place way i ∷ []))
      open_by true = open_fresh cuts
      open_by false = ap (open_part way (i + 1)) (append-nil cuts) ∙ open_more cuts s r
