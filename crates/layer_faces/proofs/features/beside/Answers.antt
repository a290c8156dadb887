use Rattle.kit_words.proofs.Common.{◌*◌, ◌<◌, ◌++◌, sym, ap, ◌∙◌, subst, arith, length, get_or, All, take_all}
use Rattle.std.proofs.lemmas.List.{get_or_default}
use Rattle.layer_sides.specs.Seen.{borders_seen}
use Rattle.layer_faces.specs.Holders.{features_of}
use Rattle.layer_faces.specs.Kept.{beside_numbers, held_at, opposite_number}
use Rattle.layer_faces.proofs.Numbered.{opposite_within}
use Rattle.layer_faces.proofs.Cutting.{beside_more}
use Rattle.layer_faces.proofs.features.beside.Goals as goal

pub opposite-requires : goal.opposite-requires
opposite-requires g c = let h = c.requires.within c.loop-side.side-index 0 c.loop-side-test.true in omega (arith, h, c.requires.few)

pub holders_at-requires : goal.holders_at-requires
holders_at-requires g c =
    subst (λ a. a < 2 * length c.args.borders.now) (sym c.opposite.ensures)
    (opposite_within (get_or c.args.sides.now c.loop-side.side-index 0) (length c.args.borders.now) (c.requires.within c.loop-side.side-index 0 c.loop-side-test.true))

pub push_features-requires : goal.push_features-requires
push_features-requires g c =
    let a = get_or c.args.sides.now c.loop-side.side-index 0 in
    let there = opposite_within a (length c.args.borders.now) (c.requires.within c.loop-side.side-index 0 c.loop-side-test.true) in
    subst (All (λ n. n < length c.args.owners.now))
    (sym (c.as_slice.ensures.value ∙ c.in_ok-holders.ensures ∙ ap (held_at (borders_seen c.args.borders.now)) c.opposite.ensures))
    (c.requires.owned (opposite_number a) there)

pub loop-side-preserved : goal.loop-side-preserved
loop-side-preserved g c =
    let bs = borders_seen c.args.borders.now in
    let i = c.loop-side.side-index in
    let a = get_or c.args.sides.now i 0 in
    c.in_ok-push_features.ensures
    ∙ ap (λ ns. c.loop-side.features.items ++ features_of c.args.owners.now ns) (c.as_slice.ensures.value ∙ c.in_ok-holders.ensures ∙ ap (held_at bs) c.opposite.ensures)
    ∙ ap (λ ns. ns ++ features_of c.args.owners.now (held_at bs (opposite_number a))) c.loop-side.invariant
    ∙ sym (beside_more bs c.args.owners.now c.args.sides.now i a c.loop-side-test.true (get_or_default c.args.sides.now i 0 a c.loop-side-test.true))

pub returns : goal.returns
returns g c =
    c.loop-side.invariant
    ∙ ap (λ ns. features_of c.args.owners.now (beside_numbers (borders_seen c.args.borders.now) ns)) (take_all c.loop-side.side-index c.args.sides.now c.loop-side-test.false)
