use Rattle.kit_words.proofs.Common.{◌≡◌, ℕ, pos, ◌+ℤ◌, ◌*ℤ◌, eqb, get_or, length, take}
use Rattle.std.specs.List.{count_by}
use Rattle.layer_faces.specs.Areas.{total}
use Rattle.layer_faces.proofs.areas.add_to.Given as goal

-- what was added so far
abbrev pub invariant-loop-n : goal.invariant-loop-n
invariant-loop-n l = record {
  each : (k : ℕ) → get_or l.areas k (pos 0) ≡ get_or l.fn.areas k (pos 0) +ℤ pos (count_by (λ n. eqb n k) (take l.n-index l.numbers)) *ℤ l.area;
  sum : total (λ z. z) l.areas ≡ total (λ z. z) l.fn.areas +ℤ pos l.n-index *ℤ l.area;
  same : length l.areas ≡ length l.fn.areas;
}
