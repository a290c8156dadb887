-- The greatest of what the coordinates have, as the loops come to it.
use Rattle.kit_words.proofs.Common.{◌≡◌, ℕ, ◌+◌, ◌<◌, List, length, get_or, drop, map, ap, ℤ, Vec, fold}
use Rattle.topo_outline.proofs.Common.{tail_at}
use Rattle.grid_reader.specs.Common.{FinePos, greater, greatest_from, coordinates, fine_seen, arcs_seen}

abbrev pub greatest_in : {A : Type 0} → (ℤ → ℕ) → ℕ → List (Vec FinePos A) → ℕ
greatest_in f n arcs = fold greater n (map f (coordinates (arcs_seen arcs)))

pub step : (f : ℤ → ℕ) (n : ℕ) (ps : List FinePos) (i : ℕ) (p : FinePos) → i < length ps → p ≡ get_or ps i p →
    greatest_from f n (map fine_seen (drop i ps)) ≡ greatest_from f (greater (greater n (f p.x)) (f p.y)) (map fine_seen (drop (i + 1) ps))
step f n ps i p lt is = ap (λ (qs : List FinePos). greatest_from f n (map fine_seen qs)) (tail_at p ps i lt is)
