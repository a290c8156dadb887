-- Counting features down, as the loops do.
use Rattle.kit_words.proofs.Common.{◌≡◌, ℕ, ◌+◌, ◌-◌, ◌<◌, ◌≤◌, List, length, get_or, drop, map, ap, ◌∙◌, arith}
use Rattle.kit_words.proofs.Common.{drop_all}
use Rattle.std.proofs.Common.{length-append}
use Rattle.topo_outline.specs.Common.{LayerText, Piece, at_most_one, leaf_of, leaves_in, leaves}
use Rattle.topo_outline.proofs.Common.{tail_at}

pub item_turn : {X : Type 0} (v : X → Piece) (whole left left' n : ℕ) (xs : List X) (i : ℕ) (x : X) → i < length xs → x ≡ get_or xs i x →
    n ≡ length (at_most_one (leaf_of (v x))) → left' ≡ left - n → left - length (leaves_in (map v (drop i xs))) ≡ whole → left' - length (leaves_in (map v (drop (i + 1) xs))) ≡ whole
unfolding leaves_in
item_turn {X = X} v whole left left' n xs i x lt is one less h =
    let step : length (leaves_in (map v (drop i xs))) ≡ length (at_most_one (leaf_of (v x))) + length (leaves_in (map v (drop (i + 1) xs))) =
    ap (λ (ys : List X). length (leaves_in (map v ys))) (tail_at x xs i lt is) ∙ length-append (at_most_one (leaf_of (v x))) (leaves_in (map v (drop (i + 1) xs))) in
    omega (arith, step, one, less, h)

pub item_done : {X : Type 0} (v : X → Piece) (whole left : ℕ) (xs : List X) (i : ℕ) → length xs ≤ i → left - length (leaves_in (map v (drop i xs))) ≡ whole → left ≡ whole
unfolding leaves_in
item_done {X = X} v whole left xs i le h =
    let none : length (leaves_in (map v (drop i xs))) ≡ 0 = ap (λ (ys : List X). length (leaves_in (map v ys))) (drop_all i xs le) in
    omega (arith, none, h)

pub layer_turn : {X : Type 0} (v : X → LayerText) (whole left left' : ℕ) (xs : List X) (i : ℕ) (x : X) → i < length xs → x ≡ get_or xs i x →
    left' ≡ left - length (leaves_in (v x).pieces) → left - length (leaves (map v (drop i xs))) ≡ whole → left' - length (leaves (map v (drop (i + 1) xs))) ≡ whole
unfolding leaves
layer_turn {X = X} v whole left left' xs i x lt is less h =
    let step : length (leaves (map v (drop i xs))) ≡ length (leaves_in (v x).pieces) + length (leaves (map v (drop (i + 1) xs))) =
    ap (λ (ys : List X). length (leaves (map v ys))) (tail_at x xs i lt is) ∙ length-append (leaves_in (v x).pieces) (leaves (map v (drop (i + 1) xs))) in
    omega (arith, step, less, h)

pub layer_done : {X : Type 0} (v : X → LayerText) (whole left : ℕ) (xs : List X) (i : ℕ) → length xs ≤ i → left - length (leaves (map v (drop i xs))) ≡ whole → left ≡ whole
unfolding leaves
layer_done {X = X} v whole left xs i le h =
    let none : length (leaves (map v (drop i xs))) ≡ 0 = ap (λ (ys : List X). length (leaves (map v ys))) (drop_all i xs le) in
    omega (arith, none, h)
