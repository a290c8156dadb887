-- Rings and their steps, a point at a time.
use Rattle.kit_words.proofs.Common.{◌≡◌, ◌++◌, ◌∙◌, ap, arith, sym, refl, ℕ, ◌<◌, ◌≤◌, ◌+◌, ◌-◌, List, [], ◌∷◌, length, take, drop, get_or}
use Rattle.kit_words.proofs.Common.{append-nil, append_assoc, next_drop, take_rest, drop_of_length-le, codes, appended_three}
use Rattle.kit_words.proofs.Common.{Option, Some, None, is_some, subst, true≢false}
use Rattle.map_drawing.specs.Common.{ring_path, start_path, step_path, steps_path}
use Rattle.map_drawing.specs.Corners.{apart, apart_from, corner_of, corners, corners_from, IsSecond, IsVisible, other_point}
use Rattle.map_drawing.specs.Points.{IsBeside}
use Rattle.map_drawing.specs.declared.points.Point.{Point}

-- a list is its first element and the rest
pub begun : {X : Type 0} (xs : List X) (x : X) → 1 ≤ length xs → x ≡ get_or xs 0 x → x ∷ take (length xs - 1) (drop 1 xs) ≡ xs
begun xs x h e = ap (λ l. x ∷ l) (take_rest xs 1) ∙ sym (next_drop xs 0 x h e)

-- ---- steps

pub one_step : (old new whole : List ℕ) (from to : Point) (ps : List Point) (i : ℕ) → i < length ps → to ≡ get_or ps i to
    → old ++ steps_path from (drop i ps) ≡ whole → new ≡ old ++ step_path from to → new ++ steps_path to (drop (i + 1) ps) ≡ whole
one_step old new whole from to ps i h e so_far is =
    let rest = steps_path to (drop (i + 1) ps) in
    ap (λ z. z ++ rest) is ∙ append_assoc old (step_path from to) rest
    ∙ ap (λ l. old ++ steps_path from l) (sym (next_drop ps i to h e)) ∙ so_far

pub all_steps : (text whole : List ℕ) (from : Point) (ps : List Point) (i : ℕ) → length ps ≤ i
    → text ++ steps_path from (drop i ps) ≡ whole → text ≡ whole
all_steps text whole from ps i h so_far =
    sym (append-nil text) ∙ ap (λ l. text ++ steps_path from l) (sym (drop_of_length-le ps h)) ∙ so_far

-- a start, steps and the end are the path of a ring
pub ring_is : (old one two new : List ℕ) (p : Point) (ring rest : List Point) → p ∷ rest ≡ ring → one ≡ old ++ start_path p
    → two ≡ one ++ steps_path p rest → new ≡ two ++ codes "z" → new ≡ old ++ ring_path ring
ring_is old one two new p ring rest is a b c =
    appended_three old (start_path p) (steps_path p rest) (codes "z") one two new a b c ∙ ap (λ ps. old ++ ring_path ps) is

-- ---- points that are apart

pub apart_begun : (none kept ring : List Point) (p : Point) → none ≡ [] → kept ≡ none ++ p ∷ [] → 1 ≤ length ring → p ≡ get_or ring 0 p
    → kept ++ apart_from p (take (length ring - 1) (drop 1 ring)) ≡ apart ring
apart_begun none kept ring p e is h first =
    let rest = take (length ring - 1) (drop 1 ring) in
    ap (λ z. z ++ apart_from p rest) (is ∙ ap (λ z. z ++ p ∷ []) e) ∙ ap apart (begun ring p h first)

pub one_apart : (old new whole : List Point) (p q : Point) (ps : List Point) (i : ℕ) → i < length ps → q ≡ get_or ps i q
    → old ++ apart_from p (drop i ps) ≡ whole → new ≡ old ++ other_point p q → new ++ apart_from q (drop (i + 1) ps) ≡ whole
one_apart old new whole p q ps i h e so_far is =
    let rest = apart_from q (drop (i + 1) ps) in
    ap (λ z. z ++ rest) is ∙ append_assoc old (other_point p q) rest
    ∙ ap (λ l. old ++ apart_from p l) (sym (next_drop ps i q h e)) ∙ so_far

pub all_apart : (kept whole : List Point) (p : Point) (ps : List Point) (i : ℕ) → length ps ≤ i
    → kept ++ apart_from p (drop i ps) ≡ whole → kept ≡ whole
all_apart kept whole p ps i h so_far =
    sym (append-nil kept) ∙ ap (λ l. kept ++ apart_from p l) (sym (drop_of_length-le ps h)) ∙ so_far

held : {X : Type 0} → X → Option X → X
held x (Some y) = y
held x None = x

-- a ring of one point has a second one
pub has_second : (ring : List Point) (p q : Point) → 1 ≤ length ring → length ring ≤ 1 → p ≡ get_or ring 0 p → IsBeside p q → IsSecond ring (Some q)
has_second [] p q h k is beside = absurd (omega (arith, h))
has_second (r ∷ []) p q h k is beside = (q, subst (λ z. IsBeside z q) is beside, refl)
has_second (r ∷ s ∷ ps) p q h k is beside = absurd (omega (arith, k))

no_second : (q : Point) → Some q ≡ None → ⊥
no_second q e = true≢false (ap is_some e)

-- a ring at one point goes on
pub goes_on : (ring kept drawn : List Point) (q : Point) → kept ≡ ring → IsSecond kept (Some q) → drawn ≡ kept ++ q ∷ [] → IsVisible ring drawn
unfolding held
goes_on ring [] drawn q e none is = absurd (no_second q none)
goes_on ring (p ∷ []) drawn q e (r, b, same) is =
    subst (λ z. IsVisible z drawn) e (q, subst (IsBeside p) (sym (ap (held q) same)) b, is)
goes_on ring (p ∷ o ∷ ps) drawn q e none is = absurd (no_second q none)

-- any other does not
pub stays : (ring kept : List Point) → kept ≡ ring → IsSecond kept None → IsVisible ring kept
stays ring [] e none = subst (λ z. IsVisible z []) e refl
stays ring (p ∷ []) e (q, b, some) = absurd (no_second q (sym some))
stays ring (p ∷ q ∷ ps) e none = subst (λ z. IsVisible z (p ∷ q ∷ ps)) e refl

-- ---- corners

pub corners_begun : (none kept others : List Point) (a b : Point) → none ≡ [] → kept ≡ none ++ a ∷ [] → 1 ≤ length others
    → b ≡ get_or others 0 b → kept ++ corners_from a b (take (length others - 1) (drop 1 others)) ≡ corners (a ∷ others)
corners_begun none kept others a b e is h second =
    let rest = take (length others - 1) (drop 1 others) in
    ap (λ z. z ++ corners_from a b rest) (is ∙ ap (λ z. z ++ a ∷ []) e) ∙ ap (λ ps. corners (a ∷ ps)) (begun others b h second)

pub one_corner : (old new whole : List Point) (a b c : Point) (ps : List Point) (i : ℕ) → i < length ps → c ≡ get_or ps i c
    → old ++ corners_from a b (drop i ps) ≡ whole → new ≡ old ++ corner_of a b c → new ++ corners_from b c (drop (i + 1) ps) ≡ whole
one_corner old new whole a b c ps i h e so_far is =
    let rest = corners_from b c (drop (i + 1) ps) in
    ap (λ z. z ++ rest) is ∙ append_assoc old (corner_of a b c) rest
    ∙ ap (λ l. old ++ corners_from a b l) (sym (next_drop ps i c h e)) ∙ so_far

pub all_corners : (kept more whole : List Point) (a b : Point) (ps : List Point) (i : ℕ) → length ps ≤ i → more ≡ kept ++ b ∷ []
    → kept ++ corners_from a b (drop i ps) ≡ whole → more ≡ whole
all_corners kept more whole a b ps i h is so_far =
    is ∙ ap (λ l. kept ++ corners_from a b l) (sym (drop_of_length-le ps h)) ∙ so_far
