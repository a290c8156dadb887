use Rattle.kit_words.proofs.Common.{◌≡◌, length, sym, ◌∙◌}
use Rattle.std.proofs.lemmas.Bool.{eqb-true}
use Rattle.topo_reader.specs.Common.{PlainItem, positions_of}
use Rattle.topo_reader.proofs.PlainLists.{turn, end, item_shorter}
use Rattle.topo_reader.proofs.plain_list.plain_items.Goals as goal

pub loop-more-smaller : goal.loop-more-smaller
loop-more-smaller g c =
    let one : PlainItem c.args.delta c.loop-more.left.now c.in-Some.positions.items c.in-Some.is_more c.in-Some.rest.now = rw (c.in-Some.is) at c.in_ok-positions.ensures in
    item_shorter _ _ _ _ _ _ c.loop-more-test.true one

pub loop-more-preserved : goal.loop-more-preserved
loop-more-preserved g c =
    let one : PlainItem c.args.delta c.loop-more.left.now c.in-Some.positions.items c.in-Some.is_more c.in-Some.rest.now = rw (c.in-Some.is) at c.in_ok-positions.ensures in
    turn positions_of c.args.delta c.args.inside.now c.loop-more.found.items c.push.new.self.items c.in-Some.positions c.loop-more.more c.loop-more.left.now _ _ c.loop-more-test.true one c.in_ok-push.ensures.items c.loop-more.invariant

pub returns-then-is_empty : goal.returns-then-is_empty
returns-then-is_empty g c =
    let zero : length c.loop-more.left.now ≡ 0 = eqb-true (length c.loop-more.left.now) 0 (sym c.is_empty.ensures ∙ c.if-is_empty.true) in
    end c.args.delta c.args.inside.now _ c.loop-more.more c.loop-more.left.now c.loop-more-test.false zero c.loop-more.invariant
