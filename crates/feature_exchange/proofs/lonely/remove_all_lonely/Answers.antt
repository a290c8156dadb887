use Rattle.kit_words.proofs.Common.{sym}
use Rattle.feature_exchange.proofs.Unvisited.{leaves_more, next_placed}
use Rattle.feature_exchange.proofs.lonely.remove_all_lonely.Goals as goal

pub remove_unused-requires-clause-placed : goal.remove_unused-requires-clause-placed
remove_unused-requires-clause-placed g c =
    next_placed c.args.borders.now c.args.keys.now c.loop-at.at c.index-keys-at.result c.loop-at-test.true c.index-keys-at.is c.args.vertices.now c.loop-at.vertices c.loop-at.invariant
    c.requires.different (c.requires.placed c.index-keys-at.result (c.loop-at.at, c.loop-at-test.true, sym c.index-keys-at.is))

pub loop-at-preserved : goal.loop-at-preserved
loop-at-preserved g c =
    leaves_more c.args.borders.now c.args.keys.now c.loop-at.at c.index-keys-at.result c.loop-at-test.true c.index-keys-at.is c.args.vertices.now c.loop-at.vertices c.loop-at.invariant
    c.remove_unused.new.vertices c.remove_unused.ensures
