use Rattle.kit_words.proofs.Common.{◌≡◌, ◌≤◌, ℕ, ℤ, arith, sym, ap, ap₂, ◌∙◌, map, length, subst, to_z, of_z, w128}
use Rattle.kit_words.proofs.Common.{ints}
use Rattle.std.specs.Prelude.{sum_by}
use Rattle.segment_paths.specs.Common.{paths_seen}
use Rattle.topo_reader.specs.Common.{polygon_positions, feature_positions}
use Rattle.map_mending.specs.Common.{AreaChange, area_in, change_of, swept_of}
use Rattle.map_mending.proofs.Summing.{sum_at}
use Rattle.map_mending.proofs.AreasTold.{told_next, told_end}
use Rattle.map_mending.proofs.changes.area_changes.Goals as goal

pub area-requires : goal.area-requires
area-requires g c =
    let at = sum_at (sum_by (sum_by length)) feature_positions c.args.before.now c.loop-feature.feature c.index-before-feature.result c.loop-feature-test.true c.index-before-feature.is in
    subst (λ ps. sum_by (sum_by length) (map polygon_positions ps) ≤ 4000000) (sym c.as_slice.ensures.value) (omega (arith, at, c.requires.few_before))

pub area-requires-in-loop-feature : goal.area-requires-in-loop-feature
area-requires-in-loop-feature g c =
    let at = sum_at (sum_by (sum_by length)) feature_positions c.args.after.now c.loop-feature.feature c.index-after-feature.result
    (omega (arith, c.loop-feature-test.true, c.requires.same)) c.index-after-feature.is in
    subst (λ ps. sum_by (sum_by length) (map polygon_positions ps) ≤ 4000000) (sym c.as_slice-in-loop-feature.ensures.value) (omega (arith, at, c.requires.few_after))

pub swept-requires-clause-few : goal.swept-requires-clause-few
swept-requires-clause-few g c =
    let at = sum_at (sum_by (sum_by length)) feature_positions c.args.before.now c.loop-feature.feature c.index-before-feature.result c.loop-feature-test.true c.index-before-feature.is in
    subst (λ ps. sum_by (sum_by length) (map polygon_positions ps) ≤ 4000000) (sym c.as_slice-in-loop-feature-2.ensures.value) (omega (arith, at, c.requires.few_before))

pub loop-feature-preserved : goal.loop-feature-preserved
loop-feature-preserved g c =
    let paths = paths_seen c.args.paths.now in
    let i = c.loop-feature.feature in
    let was_bits = to_z w128 (of_z w128 c.area.result) in
    let now_bits = to_z w128 (of_z w128 c.area-in-loop-feature.result) in
    let was_is : was_bits ≡ c.area.result = omega (arith, ints, c.area.type_inv) in
    let now_is : now_bits ≡ c.area-in-loop-feature.result = omega (arith, ints, c.area-in-loop-feature.type_inv) in
    let was : was_bits ≡ area_in (feature_positions c.index-before-feature.result) = was_is ∙ c.area.ensures ∙ ap (λ ps. area_in (map polygon_positions ps)) c.as_slice.ensures.value in
    let now : now_bits ≡ area_in (feature_positions c.index-after-feature.result) =
    now_is ∙ c.area-in-loop-feature.ensures ∙ ap (λ ps. area_in (map polygon_positions ps)) c.as_slice-in-loop-feature.ensures.value in
    let over : c.swept.result ≡ swept_of paths (feature_positions c.index-before-feature.result) =
    c.swept.ensures ∙ ap (λ ps. swept_of paths (map polygon_positions ps)) c.as_slice-in-loop-feature-2.ensures.value in
    let change : AreaChange = record { feature = i; before = was_bits; after = now_bits; swept = c.swept.result } in
    let is : change ≡ change_of paths i (feature_positions c.index-before-feature.result) (feature_positions c.index-after-feature.result) =
    ap₂ (λ (a b : ℤ). record { feature = i; before = a; after = b; swept = c.swept.result }) was now
    ∙ ap (λ (n : ℕ). record { feature = i; before = area_in (feature_positions c.index-before-feature.result); after = area_in (feature_positions c.index-after-feature.result); swept = n }) over in
    told_next paths feature_positions c.args.before.now c.args.after.now i c.index-before-feature.result c.index-after-feature.result change
    c.loop-feature.changes.items c.push_change.new.changes.items _
    c.loop-feature-test.true (omega (arith, c.loop-feature-test.true, c.requires.same)) c.index-before-feature.is c.index-after-feature.is is
    c.in_ok-push_change.ensures c.loop-feature.invariant

pub returns : goal.returns
returns g c =
    told_end (paths_seen c.args.paths.now) feature_positions c.args.before.now c.args.after.now c.loop-feature.feature c.loop-feature.changes.items _
    (omega (arith, c.loop-feature-test.false, c.loop-feature.auto.feature-end)) (omega (arith, c.loop-feature-test.false, c.loop-feature.auto.feature-end, c.requires.same))
    c.loop-feature.invariant
