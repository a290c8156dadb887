-- What is swept over, a position at a time.
use Rattle.kit_words.proofs.Common.{Bool, true, false, cond, ◌≡◌, ◌≤◌, ◌<◌, ◌+◌, ℕ, refl, ap, ◌∙◌, subst, List, [], ◌∷◌}
use Rattle.kit_words.proofs.Common.{◌++◌, length, drop, get_or, arith, All, AllByRecursion, drop_all, sum_by-cons}
use Rattle.kit_words.proofs.Common.{next_drop}
use Rattle.std.proofs.Common.{is_gt}
use Rattle.std.specs.Prelude.{sum_by}
use Rattle.grid_geometry.specs.Common.{Position, position_cmp, Segment, Edge, links}
use Rattle.segment_paths.specs.Common.{PathOfSegment, IsWay, inner_of}
use Rattle.map_mending.specs.Common.{triangle, swept_along, swept_by, IsBeside}
use Rattle.map_mending.proofs.Beside.{no_triangle, none_alone}

-- ---- sums over links

-- what is summed so far, and one link more
pub link_next : (f : Edge → ℕ) (from to end : Position) (xs : List Position) (i sum here whole : ℕ) → i < length xs → to ≡ get_or xs i to → here ≡ f (from, to)
    → sum + sum_by f (links (from ∷ drop i xs ++ end ∷ [])) ≡ whole
    → (sum + here) + sum_by f (links (to ∷ drop (i + 1) xs ++ end ∷ [])) ≡ whole
link_next f from to end xs i sum here whole l e is so_far =
    let rest = links (to ∷ drop (i + 1) xs ++ end ∷ []) in
    let there = ap (λ z. sum_by f (links (from ∷ z ++ end ∷ []))) (next_drop xs i to l e) in
    omega (arith, is, so_far, there, sum_by-cons f (from, to) rest)

-- the last link
pub link_last : (f : Edge → ℕ) (from end : Position) (xs : List Position) (i sum whole : ℕ) → length xs ≤ i
    → sum + sum_by f (links (from ∷ drop i xs ++ end ∷ [])) ≡ whole → sum + f (from, end) ≡ whole
link_last f from end xs i sum whole l so_far =
    let there = ap (λ z. sum_by f (links (from ∷ z ++ end ∷ []))) (drop_all i xs l) in
    omega (arith, so_far, there, sum_by-cons f (from, end) [])

-- ---- a path

pub beside_next : (s : Segment) (from to : Position) (xs : List Position) (i : ℕ) → i < length xs → to ≡ get_or xs i to
    → AllByRecursion (IsBeside s) (from ∷ drop i xs) → IsBeside s from × AllByRecursion (IsBeside s) (to ∷ drop (i + 1) xs)
beside_next s from to xs i l e h = (h.0, subst (AllByRecursion (IsBeside s)) (next_drop xs i to l e) h.1)

-- the sum is whole before the last step, which goes straight to the end
pub along_end : (s : Segment) (from : Position) (xs : List Position) (i sum whole : ℕ) → length xs ≤ i
    → sum + sum_by (triangle s.hi) (links (from ∷ drop i xs ++ s.hi ∷ [])) ≡ whole → sum ≡ whole
along_end s from xs i sum whole l so_far =
    omega (arith, link_last (triangle s.hi) from s.hi xs i sum whole l so_far, no_triangle from s.hi)

-- a position alone sweeps over nothing
pub nothing_swept : (paths : List PathOfSegment) (a : Position) → All (λ p. IsWay p.0 p.1) paths → swept_by paths (a, a) ≡ 0
nothing_swept paths a h =
    let s : Segment = record { lo = a; hi = a } in
    ap (λ (t : Segment). swept_along t (inner_of paths t)) (either (is_gt (position_cmp a a)) s)
    ∙ ap (swept_along s) (none_alone paths s refl h) ∙ omega (arith, no_triangle a a)
  where
    either : (b : Bool) (t : Segment) → cond b t t ≡ t
    either true t = refl
    either false t = refl

-- the path that was found
pub path_found : (paths : List PathOfSegment) (s t : Segment) (inner : List Position) → t ≡ s → inner ≡ inner_of paths t → inner ≡ inner_of paths s
path_found paths s t inner same is = is ∙ ap (inner_of paths) same
