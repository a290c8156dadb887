use Rattle.kit_words.proofs.Common.{◌≡◌, ◌∙◌, ap, arith, max}
use Rattle.decimal_texts.specs.Common.{Parts}
use Rattle.grid_decimals.specs.Common.{HasParts, fitting, grid_with, most_decimals}
use Rattle.grid_decimals.proofs.Grids.{most_is, refused_decimals, refused_x, refused_y, taken}
use Rattle.grid_decimals.proofs.transform.grid_with.Goals as goal
use Rattle.grid_decimals.proofs.transform.grid_with.Goals.{After-max-decimals}

most : (c : After-max-decimals) (p q : Parts × Parts) → HasParts c.args.scale.0 p.0 → HasParts c.args.scale.1 p.1
    → HasParts c.args.translate.0 q.0 → HasParts c.args.translate.1 q.1
    → fitting (grid_with c.max-decimals.result p q) ≡ fitting (grid_with (most_decimals p q) p q)
most c p q h k i j =
    let m : c.max-of_scale.result ≡ max c.decimals.result c.decimals-2.result = omega arith in
    let n : c.max-of_translate.result ≡ max c.decimals-3.result c.decimals-4.result = omega arith in
    let o : c.max-decimals.result ≡ max c.max-of_scale.result c.max-of_translate.result = omega arith in
    ap (λ d. fitting (grid_with d p q))
    (most_is c.decimals.result c.decimals-2.result c.decimals-3.result c.decimals-4.result c.max-of_scale.result
    c.max-of_translate.result c.max-decimals.result p q (c.decimals.ensures p.0 h) (c.decimals-2.ensures p.1 k)
    (c.decimals-3.ensures q.0 i) (c.decimals-4.ensures q.1 j) m n o)

pub returns-then-decimals-gt-MOST_DECIMALS : goal.returns-then-decimals-gt-MOST_DECIMALS
returns-then-decimals-gt-MOST_DECIMALS c = λ p q h k i j.
    refused_decimals c.max-decimals.result p q c.if-decimals-gt-MOST_DECIMALS.true
    ∙ most (goal.at.returns-then-decimals-gt-MOST_DECIMALS c).After-max-decimals p q h k i j

pub returns-in_err-of : goal.returns-in_err-of
returns-in_err-of c =
    rw c.from_residual.ensures (λ p q h k i j.
    refused_x c.max-decimals.result p q (c.in_err-of.ensures p.0 q.0 h i)
    ∙ most (goal.at.returns-in_err-of c).After-max-decimals p q h k i j)

pub returns-in_err-of-2 : goal.returns-in_err-of-2
returns-in_err-of-2 c =
    rw c.from_residual-in_err-of-2.ensures (λ p q h k i j.
    refused_y c.max-decimals.result p q (c.in_err-of-2.ensures p.1 q.1 k j)
    ∙ most (goal.at.returns-in_err-of-2 c).After-max-decimals p q h k i j)

pub returns : goal.returns
returns c = λ p q h k i j.
    taken c.max-decimals.result p q c.in_ok-of.field-0 c.in_ok-of-2.field-0 c.if-decimals-gt-MOST_DECIMALS.false
    (c.in_ok-of.ensures p.0 q.0 h i) (c.in_ok-of-2.ensures p.1 q.1 k j)
    ∙ most (goal.at.returns c).After-max-decimals p q h k i j
