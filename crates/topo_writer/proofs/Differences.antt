-- The pairs of an arc, place by place.
use Rattle.kit_words.proofs.Common.{◌≡◌, ℕ, zero, suc, ◌<◌, ◌-◌, ◌-ℤ◌, pos, length, List, [], ◌∷◌, true, refl, sym, ap}
use Rattle.kit_words.proofs.Common.{ap₂, ◌∙◌, arith, get_or, Bool, false, false≢true, get_or_default}
use Rattle.grid_geometry.specs.Common.{Position, position}
use Rattle.map_text.specs.Common.{differences, pairs}

pub differences-length : (before : Position) (ps : List Position) → length (differences before ps) ≡ length ps
differences-length before [] = refl
differences-length before (p ∷ ps) = ap suc (differences-length p ps)

pub pairs-length : (delta : Bool) (ps : List Position) → length (pairs delta ps) ≡ length ps
pairs-length true ps = differences-length (position (pos 0) (pos 0)) ps
pairs-length false ps = refl

-- each later one is a difference
pub later_pair : (before : Position) (ps : List Position) (i : ℕ) (d : Position) → suc i < length ps
    → get_or (differences before ps) (suc i) d
    ≡ position ((get_or ps (suc i) d).x -ℤ (get_or ps i d).x) ((get_or ps (suc i) d).y -ℤ (get_or ps i d).y)
later_pair before [] i d h = absurd (omega (arith, h))
later_pair before (p ∷ []) i d h = absurd (omega (arith, h))
later_pair before (p ∷ q ∷ ps) zero d h = refl
later_pair before (p ∷ q ∷ ps) (suc i) d h = later_pair p (q ∷ ps) i d (omega (arith, h))

-- the pair at a place that is not the first, with a transform
pub pair_is : (delta : Bool) (ps : List Position) (i : ℕ) (p before : Position) → i < length ps → delta ≡ true → (i ≡ 0 → ⊥)
    → p ≡ get_or ps i p → before ≡ get_or ps (i - 1) before
    → position (p.x -ℤ before.x) (p.y -ℤ before.y) ≡ get_or (pairs delta ps) i (position (pos 0) (pos 0))
pair_is false ps i p before l d n e f = absurd (false≢true d)
pair_is true ps zero p before l d n e f = absurd (n refl)
pair_is true ps (suc i) p before l d n e f =
    let origin : Position = position (pos 0) (pos 0) in
    let here : p ≡ get_or ps (suc i) origin = e ∙ get_or_default ps (suc i) p origin l in
    let k : suc i - 1 ≡ i = omega arith in
    let there : before ≡ get_or ps i origin = f ∙ ap (λ n. get_or ps n before) k ∙ get_or_default ps i before origin (omega (arith, l)) in
    ap₂ (λ (q : Position) (r : Position). position (q.x -ℤ r.x) (q.y -ℤ r.y)) here there ∙ sym (later_pair origin ps i origin l)
