use Rattle.kit_words.proofs.Common.{◌≡◌, ℕ, ◌<◌, ltb, true, get_or}
use Rattle.layer_faces.proofs.holders.count_below.Given as goal

-- all so far are below n
abbrev pub invariant-loop-m : goal.invariant-loop-m
invariant-loop-m l = record {
  place : l.count ≡ l.m-index;
  below : (k : ℕ) → k < l.m-index → ltb (get_or l.numbers k 0) l.n ≡ true;
}
