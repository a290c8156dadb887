use Rattle.kit_words.proofs.Common.{◌≡◌, ◌≤◌, ◌∙◌, ◌-ℤ◌, ℕ, ℤ, ap, ap₂, arith, ints, max, of_z, to_z, unsigned_abs, w64}
use Rattle.geo_text.proofs.longest.side.Goals as goal

-- a difference of coordinates, as the code has it
difference : (a b x y : ℤ) (n : ℕ) → x ≡ a → y ≡ b → unsigned_abs a ≤ 1000000000000 → unsigned_abs b ≤ 1000000000000
    → n ≡ unsigned_abs (to_z w64 (of_z w64 (to_z w64 (of_z w64 x) -ℤ to_z w64 (of_z w64 y)))) → n ≡ unsigned_abs (a -ℤ b)
difference a b x y n e f p q h =
    let same : to_z w64 (of_z w64 (to_z w64 (of_z w64 x) -ℤ to_z w64 (of_z w64 y))) ≡ a -ℤ b = omega (arith, ints) in
    h ∙ ap unsigned_abs same

pub returns-clause-value : goal.returns-clause-value
returns-clause-value c =
    let a = c.args.from in
    let b = c.args.to in
    c.max.ensures
    ∙ ap₂ (λ (x y : ℕ). max x y)
    (difference b.x a.x c.x.result c.x-2.result c.unsigned_abs-across.result c.x.ensures.value c.x-2.ensures.value c.x.ensures.range.across c.x-2.ensures.range.across c.unsigned_abs-across.ensures.value)
    (difference b.y a.y c.y.result c.y-2.result c.unsigned_abs-upward.result c.y.ensures.value c.y-2.ensures.value c.y.ensures.range.upward c.y-2.ensures.range.upward c.unsigned_abs-upward.ensures.value)
