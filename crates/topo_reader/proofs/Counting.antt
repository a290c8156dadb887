-- Counting positions, as the code does: with a sum that stops at the greatest number.
use Rattle.kit_words.proofs.Common.{◌≡◌, ℕ, ◌+◌, ◌-◌, ◌^◌, ◌≤◌, min, List, [], ◌∷◌, length, map, Vec}
use Rattle.kit_words.proofs.Common.{refl, sym, ap, ◌∙◌, arith, fold, flat_map, length-reverse, nat_le, map-append, sum_by-append}
use Rattle.std.specs.Prelude.{sum_by}
use Rattle.std.proofs.lemmas.List.Sums.{sum_by-cons}
use Rattle.topo_reader.specs.Common.{Use, arc_of, ring_uses, polygon_uses, feature_uses, ring_size, polygon_size, size}

length_use : (u : Use) → length (arc_of u) ≡ length u.arc.now
length_use u = grind (arith, length-reverse u.arc.now)

abbrev added : ℕ → List Use → ℕ
added n us = fold (λ sum one. min (sum + length one.arc.now) (2 ^ 64 - 1)) n us

added_is : (n : ℕ) (us : List Use) → n ≤ 2 ^ 64 - 1 → added n us ≡ min (n + sum_by length (map arc_of us)) (2 ^ 64 - 1)
added_is n [] le = omega (arith, le)
added_is n (u ∷ us) le =
    added_is (min (n + length u.arc.now) (2 ^ 64 - 1)) us (omega arith)
    ∙ omega (arith, length_use u, sum_by-cons length (arc_of u) (map arc_of us))

-- a sum over lists joined is the sum of their sums
sums : {X Y Z : Type 0} (f : Y → ℕ) (v : X → Y) (g : Z → List X) (zs : List Z) → sum_by f (map v (flat_map g zs)) ≡ sum_by (λ ys. sum_by f ys) (map (λ z. map v (g z)) zs)
sums f v g [] = refl
sums f v g (z ∷ zs) =
    ap (sum_by f) (map-append v (g z) (flat_map g zs)) ∙ sum_by-append f (map v (g z)) (map v (flat_map g zs))
    ∙ ap (λ (n : ℕ). sum_by f (map v (g z)) + n) (sums f v g zs)
    ∙ sym (sum_by-cons (λ ys. sum_by f ys) (map v (g z)) (map (λ z. map v (g z)) zs))

capped : (n : ℕ) → nat_le (min (0 + n) (2 ^ 64 - 1)) 4000000 ≡ nat_le n 4000000
capped n = grind arith

module _ {A : Type 0} (features : List (Vec (Vec (Vec Use A) A) A)) where
  abbrev polygons : List (Vec (Vec Use A) A)
  polygons = flat_map (λ polygons. polygons.items) features

  abbrev rings : List (Vec Use A)
  rings = flat_map (λ polygon. polygon.items) polygons

  abbrev uses : List Use
  uses = flat_map (λ ring. ring.items) rings

  size_is : sum_by length (map arc_of uses) ≡ size (map feature_uses features)
  size_is =
      sums length arc_of (λ (ring : Vec Use A). ring.items) rings
      ∙ sums ring_size ring_uses (λ (polygon : Vec (Vec Use A) A). polygon.items) polygons
      ∙ sums polygon_size polygon_uses (λ (polygons : Vec (Vec (Vec Use A) A) A). polygons.items) features

  pub fits : nat_le (added 0 uses) 4000000 ≡ nat_le (size (map feature_uses features)) 4000000
  fits = ap (λ (n : ℕ). nat_le n 4000000) (added_is 0 uses (omega arith)) ∙ capped (sum_by length (map arc_of uses)) ∙ ap (λ (n : ℕ). nat_le n 4000000) size_is
