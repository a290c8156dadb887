use Rattle.kit_words.proofs.Common.{◌≡◌, ◌∙◌, All, subst, take_all}
use Rattle.std.proofs.lemmas.List.Elements.{All-more}
use Rattle.layer_sides.specs.Seen.{borders_seen}
use Rattle.layer_faces.specs.Kept.{held_at}
use Rattle.layer_faces.proofs.holders.common_holders.Goals as goal

pub loop-side-preserved : goal.loop-side-preserved
loop-side-preserved g c =
    All-more (λ a. held_at (borders_seen c.args.borders.now) a ≡ c.in_ok-holders.holders.items) c.args.sides.now c.loop-side.side-index 0
    c.loop-side-test.true c.loop-side.invariant
    (c.in_ok-is_held_by.ensures.0 c.if-not-branch.false ∙ c.as_slice.ensures.value)

pub returns : goal.returns
returns g c =
    subst (All (λ a. held_at (borders_seen c.args.borders.now) a ≡ c.in_ok-holders.holders.items))
    (take_all c.loop-side.side-index c.args.sides.now c.loop-side-test.false) c.loop-side.invariant
