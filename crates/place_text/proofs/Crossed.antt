-- The pairs of segments that cross, and their positions.
use Rattle.kit_words.proofs.Common.{◌≡◌, ◌<◌, ◌+◌, ℕ, sym, ap, subst, ◌∙◌, List, [], ◌∷◌, ◌++◌, length, take, get_or}
use Rattle.kit_words.proofs.Common.{IsTrue, AllZip, take_more}
use Rattle.std.specs.Prelude.{All}
use Rattle.grid_geometry.specs.Common.{Position, cross}
use Rattle.segment_paths.specs.Common.{IsRoundedCrossing}
use Rattle.walk_faults.specs.declared.findings.Crossing.{Crossing}
use Rattle.place_text.specs.Common.{AreCrossings}

both_more : {X Y : Type 0} (R : X → Y → Type 0) (xs : List X) (ys : List Y) (x : X) (y : Y) → AllZip R xs ys → R x y → AllZip R (xs ++ x ∷ []) (ys ++ y ∷ [])
both_more R [] [] x y h r = (r, tt)
both_more R [] (z ∷ ys) x y h r = absurd h
both_more R (z ∷ xs) [] x y h r = absurd h
both_more R (z ∷ xs) (w ∷ ys) x y h r = (h.0, both_more R xs ys x y h.1 r)

-- one pair more
pub crossings_more : (pairs : List Crossing) (i : ℕ) (pair : Crossing) (ps after : List Position) (p : Position) → i < length pairs → pair ≡ get_or pairs i pair
    → AreCrossings (take i pairs) ps → IsRoundedCrossing pair.first pair.second p → after ≡ ps ++ p ∷ [] → AreCrossings (take (i + 1) pairs) after
crossings_more pairs i pair ps after p l e so_far here is =
    let front : take (i + 1) pairs ≡ take i pairs ++ pair ∷ [] = take_more pairs i pair l ∙ ap (λ z. take i pairs ++ z ∷ []) (sym e) in
    subst (λ z. AreCrossings z after) (sym front) (subst (AreCrossings (take i pairs ++ pair ∷ [])) (sym is)
    (both_more (λ c q. IsRoundedCrossing c.first c.second q) (take i pairs) ps pair p so_far here))

-- the pair at a place crosses
pub one_crosses : (pairs : List Crossing) (i : ℕ) (pair : Crossing) → i < length pairs → pair ≡ get_or pairs i pair
    → All (λ c. IsTrue (cross c.first c.second)) pairs → IsTrue (cross pair.first pair.second)
one_crosses pairs i pair l e all = subst (λ (c : Crossing). IsTrue (cross c.first c.second)) (sym e) (all i pair l)
