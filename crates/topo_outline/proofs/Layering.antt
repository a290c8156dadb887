-- Layers that are read in their order into their places in a map.
use Rattle.kit_words.proofs.Common.{◌≡◌, ◌∙◌, ℕ, zero, suc, ◌+◌, ◌<◌, List, [], ◌∷◌, ◌++◌, length, take, map, set, refl, ap, length-map, take_more_set, arith}
use Rattle.indexmap.specs.IndexMap.{IndexMap, with_value_at, set_value_at, values, index_map_len}

one_written : {K X : Type 0} (es : List (K × X)) (i : ℕ) (w : X) → map (λ e. e.1) (set_value_at es i w) ≡ set (map (λ e. e.1) es) i w
one_written [] i w = refl
one_written (e ∷ es) zero w = refl
one_written (e ∷ es) (suc i) w = ap (λ l. e.1 ∷ l) (one_written es i w)

module _ {K X S : Type 0} (m : IndexMap K X S) (i : ℕ) (w : X) where
  -- a write by number is one in the list of the values
  pub values-with_value_at : values (with_value_at m i w) ≡ set (values m) i w
  values-with_value_at = one_written m.entries i w

  -- the values up to the one that was written
  pub values_written : i < index_map_len m → take (i + 1) (values (with_value_at m i w)) ≡ take i (values m) ++ w ∷ []
  values_written lt =
      let e : length (values m) ≡ index_map_len m = length-map m.entries (λ e. e.1) in
      ap (take (i + 1)) values-with_value_at ∙ take_more_set (values m) i w (omega (arith, lt, e))
