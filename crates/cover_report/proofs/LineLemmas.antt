-- The lines of a report, put one behind another.
use Rattle.kit_words.proofs.Common.{◌≡◌, ◌∙◌, ℕ, suc, ◌+◌, ◌-◌, ◌*◌, ◌^◌, ◌<◌, ◌≤◌, ◌++◌, [], List, ap, ap₂, sym, refl, arith, map, take}
use Rattle.kit_words.proofs.Common.{append_assoc, append-nil, flat_map-map, pow-le-pow_right, take-map}
use Rattle.std.specs.Prelude.{flat_map}
use Rattle.cover_report.specs.Faces.{FaceTold}
use Rattle.cover_report.specs.Report.{lines, wide_from, wide_line, wide_lines}

-- lines of what is seen
pub lines_of : {X Y : Type 0} (most : ℕ) (line : Y → List ℕ) (of : X → Y) (xs whole : List X) (ys : List Y) → whole ≡ xs → map of xs ≡ ys
    → lines most (λ x. line (of x)) whole ≡ lines most line ys
lines_of most line of xs whole ys is_whole seen =
    ap (λ z. lines most (λ x. line (of x)) z) is_whole
    ∙ sym (flat_map-map line of (take most xs))
    ∙ ap (flat_map line) (sym (take-map of most xs) ∙ ap (take most) seen)

-- one line of widths more
pub wide_step : (faces : List FaceTold) (n k : ℕ) → wide_from (suc n) k faces ≡ wide_line (2 ^ k) (2 * 2 ^ k) faces ++ wide_from n (suc k) faces
unfolding wide_from
wide_step faces n k = refl

pub wide_end : (faces : List FaceTold) (k : ℕ) → wide_from 0 k faces ≡ []
unfolding wide_from
wide_end faces k = refl

-- the first line of widths, and the others
pub widths_begun : (faces : List FaceTold) (old new : List ℕ) → new ≡ old ++ wide_line 0 1 faces → new ++ wide_from (126 - 0) 0 faces ≡ old ++ wide_lines faces
widths_begun faces old new e = ap (λ z. z ++ wide_from 126 0 faces) e ∙ append_assoc old (wide_line 0 1 faces) (wide_from 126 0 faces)

-- one line more
pub widths_next : (faces : List FaceTold) (k over most : ℕ) (now new whole : List ℕ) → k < 126 → over ≡ 2 ^ k → most ≡ 2 * over
    → new ≡ now ++ wide_line over most faces → now ++ wide_from (126 - k) k faces ≡ whole → new ++ wide_from (126 - (k + 1)) (k + 1) faces ≡ whole
widths_next faces k over most now new whole l is twice e h =
    let one : k + 1 ≡ suc k = omega arith in
    let less : 126 - k ≡ suc (126 - (k + 1)) = omega (arith, l) in
    let line = wide_line (2 ^ k) (2 * 2 ^ k) faces in
    let left = wide_from (126 - (k + 1)) (suc k) faces in
    ap₂ (λ y j. y ++ wide_from (126 - (k + 1)) j faces) (e ∙ ap₂ (λ o m. now ++ wide_line o m faces) is (twice ∙ ap (λ o. 2 * o) is)) one
    ∙ append_assoc now line left
    ∙ ap (λ z. now ++ z) (sym (wide_step faces (126 - (k + 1)) k))
    ∙ ap (λ n. now ++ wide_from n k faces) (sym less)
    ∙ h

-- no line is left
pub widths_left : (faces : List FaceTold) (k : ℕ) (now whole : List ℕ) → 126 - k ≡ 0 → now ++ wide_from (126 - k) k faces ≡ whole → now ≡ whole
widths_left faces k now whole none h =
    sym (append-nil now) ∙ ap (λ z. now ++ z) (sym (ap (λ n. wide_from n k faces) none ∙ wide_end faces k)) ∙ h

-- twice the width before the last fits
pub twice_fits : (k over : ℕ) → k < 126 → over ≡ 2 ^ k → 2 * over ≤ 2 ^ 126
twice_fits k over l e =
    let two : 0 < 2 = omega arith in
    let small : k ≤ 125 = omega (arith, l) in
    let most : 2 ^ k ≤ 2 ^ 125 = pow-le-pow_right two small in
    omega (arith, most, e)
