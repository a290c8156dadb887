-- Two features, and what is asked of a merge of them.
use Rattle.kit_words.proofs.Common.{◌≡◌, ℕ, ◌≤◌, ◌+ℤ◌, refl, sym, ap, ◌∙◌, List, [], ◌∷◌, ◌++◌, length, Option, None}
use Rattle.kit_words.proofs.Common.{Some, inl, inr, arith, Result, Ok, Err, OnOk, sum_by, sum_by-cons}
use Rattle.grid_geometry.specs.Common.{Position}
use Rattle.ring_machine.specs.Common.{Document, Feature, rings, size, feature, Proper, join, area_of, first_of}
use Rattle.ring_machine.specs.Common.{merge_refusals, feature_at, or_else, no_feature}
use Rattle.ring_machine.proofs.Common.{In, feature_in}
use Rattle.ring_machine.proofs.MergeAreas.{outer_in, merge_areas}
use Rattle.split_merge.specs.Common.{pair_refusals, outline_refusals, only_outer}

-- ---- sizes

-- a ring is no longer than all rings together
one_of : (r : List Position) (rs : List (List Position)) → In r rs → length r ≤ sum_by length rs
one_of r [] i = absurd i
one_of r (s ∷ rs) (inl e) = let h : length r ≡ length s = ap length (sym e) in simp sum_by-cons (omega (arith, h))
one_of r (s ∷ rs) (inr i) = simp sum_by-cons (omega (arith, one_of r rs i))

-- the only polygon begins with its outer ring
alone : (ps : List (List (List Position))) (r : List Position) → Some r ≡ only_outer ps
    → (holes : List (List Position)) × (ps ≡ (r ∷ holes) ∷ [])
alone [] r h = absurd cc
alone ([] ∷ ps) r h = absurd cc
alone ((outer ∷ holes) ∷ []) r h = (holes, cc)
alone ((outer ∷ holes) ∷ p ∷ ps) r h = absurd cc

-- an outer ring is no longer than the document is large
pub outer_small : (d : Document) (n : ℕ) (r : List Position) → Some r ≡ only_outer (feature_at d n).polygons
    → length r ≤ size d
outer_small d n r h = by (feature d n) refl h
  where
    by : (o : Option Feature) → feature d n ≡ o → Some r ≡ only_outer (or_else no_feature o).polygons
        → length r ≤ size d
    by None e k = absurd cc
    by (Some f) e k =
        let a = alone f.polygons r k in
        one_of r (rings d) (outer_in d f r a.0 (feature_in d n f e).0 a.1)

-- ---- refusals

pub merge_groups : (d : Document) (n m : ℕ) → merge_refusals d n m
    ≡ pair_refusals d n m ++ outline_refusals d n m
unfolding merge_refusals
merge_groups d n m = refl

-- ---- areas

-- the area of the one feature is the sum of those of both
pub areas_added : {E : Type 0} (r : Result (Unit {0}) E) (d after : Document) (n m : ℕ) → Proper d
    → OnOk r (first_of (merge_refusals d n m) ≡ None) → OnOk r (after ≡ join d n (feature_at d m))
    → OnOk r (area_of (feature_at after n) ≡ area_of (feature_at d n) +ℤ area_of (feature_at d m))
areas_added (Err e) d after n m proper accepted is = tt
areas_added (Ok u) d after n m proper accepted is =
    ap (λ e. area_of (feature_at e n)) is ∙ merge_areas d n m proper accepted
