-- A ring begun at a position, and the least of its positions.
use Rattle.kit_words.proofs.Common.{◌≡◌, ℕ, suc, ◌+◌, ◌<◌, ◌≤◌, Bool, true, false, cond, List, [], ◌∷◌, ◌++◌, length}
use Rattle.kit_words.proofs.Common.{get_or, take, drop, refl, sym, ap, ap₂, ◌∙◌, drop-cons, add-one, drop_all}
use Rattle.kit_words.proofs.Common.{reduce, Some, unwrap_or}
use Rattle.std.proofs.lemmas.Option.{none-some}
use Rattle.grid_geometry.specs.Common.{Position, position_eq, position_lt, is_inside}
use Rattle.ring_machine.specs.Common.{before, from, begin_at, canonical, goes_first, least_off}

-- ---- the place of a position

pub before_turn : (m : Position) (ps : List Position) (i : ℕ) (d : Position) → i < length ps →
    length (before m (drop i ps)) ≡ cond (position_eq (get_or ps i d) m) 0 (suc (length (before m (drop (i + 1) ps))))
before_turn m ps i d lt = rw (drop-cons ps i d lt, add-one i) (by (position_eq (get_or ps i d) m) (get_or ps i d) (before m (drop (suc i) ps)))
  where
    by : (b : Bool) (p : Position) (qs : List Position) → length (cond b [] (p ∷ qs)) ≡ cond b 0 (suc (length qs))
    by true p qs = refl
    by false p qs = refl

pub before_done : (m : Position) (ps : List Position) (i : ℕ) → length ps ≤ i → length (before m (drop i ps)) ≡ 0
before_done m ps i le = rw (drop_all i ps le) refl

-- ---- what stands before it, and from it on

pub take_before : (m : Position) (ps : List Position) → take (length (before m ps)) ps ≡ before m ps
take_before m [] = refl
take_before m (p ∷ ps) = by (position_eq p m) (take_before m ps)
  where
    by : (b : Bool) → take (length (before m ps)) ps ≡ before m ps → take (length (cond b [] (p ∷ before m ps))) (p ∷ ps) ≡ cond b [] (p ∷ before m ps)
    by true h = refl
    by false h = ap (λ qs. p ∷ qs) h

drop_before : (m : Position) (ps : List Position) → drop (length (before m ps)) ps ≡ from m ps
drop_before m [] = refl
drop_before m (p ∷ ps) = by (position_eq p m) (drop_before m ps)
  where
    by : (b : Bool) → drop (length (before m ps)) ps ≡ from m ps → drop (length (cond b [] (p ∷ before m ps))) (p ∷ ps) ≡ cond b (p ∷ ps) (from m ps)
    by true h = refl
    by false h = h

pub turned_at : (m : Position) (ps : List Position) → drop (length (before m ps)) ps ++ take (length (before m ps)) ps ≡ begin_at m ps
turned_at m ps = ap₂ (λ us vs. us ++ vs) (drop_before m ps) (take_before m ps)

-- ---- the canonical rotation

pub canonical_by : (ring : List Position) (m : Position) → reduce (λ q p. cond (position_lt p q) p q) ring ≡ Some m → begin_at m ring ≡ canonical ring
canonical_by [] m h = absurd (none-some m h)
canonical_by (p ∷ ps) m h = ap (λ o. begin_at (unwrap_or o p) (p ∷ ps)) (sym h)

-- where a hole goes, by the least of its positions that are not of the part
pub goes_by : (part hole : List Position) (w : Position) → least_off part hole ≡ Some w → goes_first part hole ≡ is_inside w part
goes_by part hole w h = rw h refl
