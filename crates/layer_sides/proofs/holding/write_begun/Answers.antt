use Rattle.kit_words.proofs.Common.{◌-◌, sym, ap, subst, arith, length}
use Rattle.layer_sides.specs.Seen.{borders_seen}
use Rattle.layer_sides.specs.Under.{AreBelow}
use Rattle.layer_sides.proofs.HoldingSides.{below_back, begun_below, written_more}
use Rattle.layer_sides.proofs.holding.write_begun.Goals as goal

pub left_of_first-requires-clause-below : goal.left_of_first-requires-clause-below
left_of_first-requires-clause-below g c =
    subst (λ n. AreBelow n c.args.behind.now) (ap length (sym c.as_slice.ensures.value))
    (below_back (length c.args.borders.now.items) c.args.begun.now c.args.behind.now c.requires.below)

pub write_right-requires-clause-place : goal.write_right-requires-clause-place
write_right-requires-clause-place g c =
    begun_below c.args.borders.now.items c.loop-count.borders.items c.args.begun.now c.args.behind.now (c.loop-count.count - 1) c.requires.below
    c.loop-count.invariant.1 (omega (arith, c.loop-count.invariant.0, c.loop-count-test.true))

pub loop-count-preserved : goal.loop-count-preserved
loop-count-preserved g c =
    written_more (borders_seen c.args.borders.now.items) c.loop-count.borders.items _ c.args.begun.now c.args.behind.now c.loop-count.count
    c.loop-count.numbers.items _ c.requires.apart (omega (arith, c.loop-count-test.true))
    (begun_below c.args.borders.now.items c.loop-count.borders.items c.args.begun.now c.args.behind.now (c.loop-count.count - 1) c.requires.below
    c.loop-count.invariant.1 (omega (arith, c.loop-count.invariant.0, c.loop-count-test.true)))
    c.loop-count.invariant c.in_ok-numbers-2.ensures.set c.in_ok-numbers-2.ensures.either c.in_ok-numbers-2.ensures.ascending
