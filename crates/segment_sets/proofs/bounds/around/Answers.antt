use Rattle.kit_words.proofs.Common.{arith, ◌≡◌, ◌≤◌, ◌≤ℤ◌, ℤ, w64, to_z, of_z, unsigned_abs, refl, ◌∙◌, int_min}
use Rattle.kit_words.proofs.Common.{int_max, ints}
use Rattle.segment_sets.specs.Common.{box_around}
use Rattle.segment_sets.proofs.bounds.around.Goals as goal

wrapped : (r z : ℤ) → r ≡ z → unsigned_abs z ≤ 1000000000000 → to_z w64 (of_z w64 r) ≡ z
wrapped r z e h = omega (arith, ints, e, h)

min_range : (a b : ℤ) → unsigned_abs a ≤ 1000000000000 → unsigned_abs b ≤ 1000000000000 → unsigned_abs (int_min a b) ≤ 1000000000000
min_range a b h k = grind (arith, ints)

max_range : (a b : ℤ) → unsigned_abs a ≤ 1000000000000 → unsigned_abs b ≤ 1000000000000 → unsigned_abs (int_max a b) ≤ 1000000000000
max_range a b h k = grind (arith, ints)

min_most : (a b c d : ℤ) → a ≤ℤ c → int_min a b ≤ℤ int_max c d
min_most a b c d h = grind (arith, ints)

min_is : (r a b : ℤ) → r ≡ int_min (to_z w64 (of_z w64 a)) (to_z w64 (of_z w64 b)) → unsigned_abs a ≤ 1000000000000 → unsigned_abs b ≤ 1000000000000 → to_z w64 (of_z w64 r) ≡ int_min a b
min_is r a b e h k = wrapped r (int_min a b) (e ∙ (λ i. int_min (wrapped a a refl h i) (wrapped b b refl k i))) (min_range a b h k)

max_is : (r a b : ℤ) → r ≡ int_max (to_z w64 (of_z w64 a)) (to_z w64 (of_z w64 b)) → unsigned_abs a ≤ 1000000000000 → unsigned_abs b ≤ 1000000000000 → to_z w64 (of_z w64 r) ≡ int_max a b
max_is r a b e h k = wrapped r (int_max a b) (e ∙ (λ i. int_max (wrapped a a refl h i) (wrapped b b refl k i))) (max_range a b h k)

pub invariant_of-result : goal.invariant_of-result
invariant_of-result c =
    let p = c.a.inside in
    let q = c.b.inside in
    let a = c.a.invariant in
    let b = c.b.invariant in
    let x0 = min_is c.min.result p.x0 q.x0 c.min.ensures.value a.least.across b.least.across in
    let y0 = min_is c.min-2.result p.y0 q.y0 c.min-2.ensures.value a.least.upward b.least.upward in
    let x1 = max_is c.max.result p.x1 q.x1 c.max.ensures.value a.most.across b.most.across in
    let y1 = max_is c.max-2.result p.y1 q.y1 c.max-2.ensures.value a.most.upward b.most.upward in
    rw (x0, y0, x1, y1) (record {
      least = record { across = min_range p.x0 q.x0 a.least.across b.least.across; upward = min_range p.y0 q.y0 a.least.upward b.least.upward };
      most = record { across = max_range p.x1 q.x1 a.most.across b.most.across; upward = max_range p.y1 q.y1 a.most.upward b.most.upward };
      across = min_most p.x0 q.x0 p.x1 q.x1 a.across;
      upward = min_most p.y0 q.y0 p.y1 q.y1 a.upward;
    })

pub returns : goal.returns
returns c =
    let p = c.a.inside in
    let q = c.b.inside in
    let a = c.a.invariant in
    let b = c.b.invariant in
    let x0 = min_is c.min.result p.x0 q.x0 c.min.ensures.value a.least.across b.least.across in
    let y0 = min_is c.min-2.result p.y0 q.y0 c.min-2.ensures.value a.least.upward b.least.upward in
    let x1 = max_is c.max.result p.x1 q.x1 c.max.ensures.value a.most.across b.most.across in
    let y1 = max_is c.max-2.result p.y1 q.y1 c.max-2.ensures.value a.most.upward b.most.upward in
    (λ i. record { x0 = x0 i; y0 = y0 i; x1 = x1 i; y1 = y1 i }) ∙ (λ i. box_around (c.a.view_is i) (c.b.view_is i))
