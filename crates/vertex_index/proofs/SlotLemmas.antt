-- What is in a slot, and the position that it has.
use Rattle.kit_words.proofs.Common.{◌≡◌, ◌≢◌, ◌<◌, ◌+◌, ℕ, zero, suc, cond, List, [], ◌∷◌, length, set, Option, Some}
use Rattle.kit_words.proofs.Common.{None, is_some, refl, sym, ap, ◌∙◌, arith, map-set_same, get_or-set_same}
use Rattle.kit_words.proofs.Common.{get_or-set_other, map-set, sum_by-cons}
use Rattle.std.proofs.Common.{count_by}
use Rattle.std.specs.Option.{option_map}
use Rattle.std.proofs.Math.ListN.{get_or-map}
use Rattle.grid_geometry.specs.Common.{Position}
use Rattle.vertex_index.specs.Common.{Slot, in_slot, positions, slot_at}

abbrev position_of : Option Slot → Option Position
position_of o = option_map (λ (s : Slot). s.pos) o

in_positions : (s : List (Option Slot)) (k : ℕ) → in_slot (positions s) k ≡ position_of (slot_at s k)
in_positions s k = get_or-map position_of s k None

-- a slot has the position of what is in it
pub pos_here : (s : List (Option Slot)) (k : ℕ) (x : Slot) → slot_at s k ≡ Some x
    → in_slot (positions s) k ≡ Some x.pos
pos_here s k x e = in_positions s k ∙ ap position_of e

pub none_here : (s : List (Option Slot)) (k : ℕ) → slot_at s k ≡ None → in_slot (positions s) k ≡ None
none_here s k e = in_positions s k ∙ ap position_of e

pub pos_kept : (s t : List (Option Slot)) (k : ℕ) → slot_at t k ≡ slot_at s k
    → in_slot (positions t) k ≡ in_slot (positions s) k
pos_kept s t k e = in_positions t k ∙ ap position_of e ∙ sym (in_positions s k)

-- and something is in a slot that has a position
pub is_held : (s : List (Option Slot)) (k : ℕ) → is_some (slot_at s k) ≡ is_some (in_slot (positions s) k)
is_held s k = by (slot_at s k) ∙ ap is_some (sym (in_positions s k))
  where
    by : (o : Option Slot) → is_some o ≡ is_some (position_of o)
    by None = refl
    by (Some x) = refl

pub as_many : (s : List (Option Slot)) → count_by is_some (positions s) ≡ count_by is_some s
as_many [] = refl
as_many (None ∷ s) =
    sum_by-cons (λ (o : Option Position). cond (is_some o) 1 0) None (positions s)
    ∙ ap (λ n. 0 + n) (as_many s) ∙ sym (sum_by-cons (λ (o : Option Slot). cond (is_some o) 1 0) None s)
as_many (Some x ∷ s) =
    sum_by-cons (λ (o : Option Position). cond (is_some o) 1 0) (Some x.pos) (positions s)
    ∙ ap (λ n. 1 + n) (as_many s) ∙ sym (sum_by-cons (λ (o : Option Slot). cond (is_some o) 1 0) (Some x) s)

-- ---- a slot that is written

within : (l : List (Option Slot)) (k : ℕ) (x : Slot) → slot_at l k ≡ Some x → k < length l
within [] k p e = cc
within (x ∷ l) zero p e = omega arith
within (x ∷ l) (suc k) p e = omega (arith, within l k p e)

pub set_slot : (l : List (Option Slot)) (k : ℕ) (x y : Slot) → slot_at l k ≡ Some x
    → slot_at (set l k (Some y)) k ≡ Some y
set_slot l k x y e = get_or-set_same l k (Some y) None (within l k x e)

pub other_slots : (l : List (Option Slot)) (k : ℕ) (y : Slot) (j : ℕ) → j ≢ k
    → slot_at (set l k (Some y)) j ≡ slot_at l j
other_slots l k y j elsewhere = get_or-set_other l k j (Some y) None elsewhere

pub set_positions : (l : List (Option Slot)) (k : ℕ) (y : Slot)
    → positions (set l k (Some y)) ≡ set (positions l) k (Some y.pos)
set_positions l k y = map-set position_of l k (Some y)

-- with another place the position stays
pub same_positions : (l : List (Option Slot)) (k : ℕ) (x y : Slot) → slot_at l k ≡ Some x → y.pos ≡ x.pos
    → positions (set l k (Some y)) ≡ positions l
same_positions l k x y e same =
    map-set_same position_of l k (Some y) None (ap (λ p. Some p) same ∙ ap position_of (sym e))
