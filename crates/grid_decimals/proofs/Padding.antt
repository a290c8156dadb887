-- Zeros before digits, cut off a row of zeros.
use Rattle.kit_words.proofs.Common.{◌≡◌, ℕ, ◌-◌, ◌≤◌, ap, ◌∙◌, arith, List, ◌++◌, length, replicate, take}
use Rattle.std.proofs.lemmas.List.{take-replicate}
use Rattle.grid_decimals.specs.Common.{padded}

pub padded_is : (n count : ℕ) (ds text : List ℕ) → count ≤ 36 → ds ≡ text → n ≡ count - length ds
    → take n (replicate 36 48) ++ ds ≡ padded count text
padded_is n count ds text le e f =
    let few : n ≤ 36 = omega arith in
    ap (λ zs. zs ++ ds) (take-replicate n 36 48 few ∙ ap (λ m. replicate m 48) f)
    ∙ ap (λ ys. replicate (count - length ys) 48 ++ ys) e
