-- What is reported of features, one after another.
use Rattle.kit_words.proofs.Common.{◌≡◌, ◌<◌, ◌+◌, ℕ, suc, sym, ap, ap₂, ◌∙◌, List, ◌++◌, map, drop, get_or, length}
use Rattle.kit_words.proofs.Common.{arith, append_assoc, drop_all, next_drop}
use Rattle.std.proofs.Common.{append-nil}
use Rattle.segment_paths.specs.Common.{PathOfSegment}
use Rattle.topo_reader.specs.Common.{Polygons}
use Rattle.map_mending.specs.Common.{AreaChange, told_if, change_of, changes_from}

module _ {X : Type 0} (paths : List PathOfSegment) (seen : X → Polygons) (before after : List X) where
  -- one feature more
  pub told_next : (i : ℕ) (x y : X) (change : AreaChange) (old new whole : List AreaChange) → i < length before → i < length after
      → x ≡ get_or before i x → y ≡ get_or after i y → change ≡ change_of paths i (seen x) (seen y) → new ≡ old ++ told_if change
      → old ++ changes_from paths i (map seen (drop i before)) (map seen (drop i after)) ≡ whole
      → new ++ changes_from paths (i + 1) (map seen (drop (i + 1) before)) (map seen (drop (i + 1) after)) ≡ whole
  told_next i x y change old new whole l m e f is more so_far =
      let next : suc i ≡ i + 1 = omega arith in
      let rest = changes_from paths (i + 1) (map seen (drop (i + 1) before)) (map seen (drop (i + 1) after)) in
      ap (λ z. z ++ rest) (more ∙ ap (λ (c : AreaChange). old ++ told_if c) is) ∙ append_assoc old (told_if (change_of paths i (seen x) (seen y))) rest
      ∙ ap (λ (n : ℕ). old ++ (told_if (change_of paths i (seen x) (seen y)) ++ changes_from paths n (map seen (drop (i + 1) before)) (map seen (drop (i + 1) after)))) (sym next)
      ∙ ap₂ (λ (xs ys : List X). old ++ changes_from paths i (map seen xs) (map seen ys)) (sym (next_drop before i x l e)) (sym (next_drop after i y m f))
      ∙ so_far

  -- no feature is left
  pub told_end : (i : ℕ) (now whole : List AreaChange) → length before ≡ i → length after ≡ i
      → now ++ changes_from paths i (map seen (drop i before)) (map seen (drop i after)) ≡ whole → now ≡ whole
  told_end i now whole l m so_far =
      sym (append-nil now)
      ∙ ap₂ (λ (xs ys : List X). now ++ changes_from paths i (map seen xs) (map seen ys)) (sym (drop_all i before (omega (arith, l)))) (sym (drop_all i after (omega (arith, m))))
      ∙ so_far
