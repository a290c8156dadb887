-- Looking for one that passes a test, as the loops do.
use Rattle.kit_words.proofs.Common.{◌≡◌, ℕ, ◌+◌, ◌<◌, ◌≤◌, Bool, true, false, ◌||◌, List, length, get_or, drop, map, ap}
use Rattle.kit_words.proofs.Common.{list_any, drop_all}
use Rattle.topo_outline.proofs.Common.{tail_at}

module _ {X Y : Type 0} (p : Y → Bool) (v : X → Y) (xs : List X) (i : ℕ) (whole : Bool) where
  any_from : (x : X) → i < length xs → x ≡ get_or xs i x → list_any p (map v (drop i xs)) ≡ (p (v x) || list_any p (map v (drop (i + 1) xs)))
  any_from x lt is = ap (λ (ys : List X). list_any p (map v ys)) (tail_at x xs i lt is)

  pub found : (x : X) → i < length xs → x ≡ get_or xs i x → p (v x) ≡ true → list_any p (map v (drop i xs)) ≡ whole → true ≡ whole
  found x lt is right h = rw (any_from x lt is, right) at h

  pub passed : (x : X) → i < length xs → x ≡ get_or xs i x → p (v x) ≡ false → list_any p (map v (drop i xs)) ≡ whole → list_any p (map v (drop (i + 1) xs)) ≡ whole
  passed x lt is wrong h = rw (any_from x lt is, wrong) at h

  pub ended : length xs ≤ i → list_any p (map v (drop i xs)) ≡ whole → false ≡ whole
  ended le h = rw (drop_all i xs le) at h
