use Rattle.kit_words.proofs.Common.{◌+◌, ◌++◌, ◌∷◌, [], ◌∙◌, sym, ap, ap₂, map, length, drop, get_or, arith, sum}
use Rattle.kit_words.proofs.Common.{map_push, take_all, take_more, sum_by_more, sum_by_more_le}
use Rattle.map_opening.specs.Common.{in_lists, lists_seen}
use Rattle.map_opening.proofs.FlatLists.{joined_next, length-range}
use Rattle.map_opening.proofs.flat.next_lists.Goals as goal

pub loop-count-init : goal.loop-count-init
loop-count-init g c = record {
  lists = ap (λ z. in_lists (lists_seen z) ++ drop c.args.next.now c.args.numbers.now) c.new-lists.ensures.items;
  counts = ap (λ z. map length (lists_seen z)) c.new-lists.ensures.items;
  next = omega arith;
}

pub loop-count-preserved : goal.loop-count-preserved
loop-count-preserved g c =
    let list = c.in_ok-from_slice.field-0 in
    let n = get_or c.args.counts.now c.loop-count.count-index 0 in
    let pushed = ap lists_seen c.in_ok-push.ensures.items ∙ map_push (λ l. l.items) c.loop-count.lists.items list in
    record {
      lists = joined_next (lists_seen c.loop-count.lists.items) (lists_seen c.push.new.self.items) list.items c.args.numbers.now (drop c.args.next.now c.args.numbers.now)
          c.loop-count.next (c.loop-count.next + n) pushed c.in_ok-from_slice.ensures.items (omega arith) c.loop-count.invariant.lists;
      counts = ap (map length) pushed ∙ map_push length (lists_seen c.loop-count.lists.items) list.items
          ∙ ap₂ (λ y z. y ++ z ∷ []) c.loop-count.invariant.counts (length-range c.args.numbers.now list.items c.loop-count.next n c.in_ok-from_slice.ensures.items
          (omega (arith, c.requires, c.loop-count.invariant.next, sum_by_more_le (λ k. k) c.args.counts.now c.loop-count.count-index 0 c.loop-count-test.true)))
          ∙ sym (take_more c.args.counts.now c.loop-count.count-index 0 c.loop-count-test.true);
      next = omega (arith, c.loop-count.invariant.next, sum_by_more (λ k. k) c.args.counts.now c.loop-count.count-index 0 c.loop-count-test.true);
    }

pub returns-clause-counts : goal.returns-clause-counts
returns-clause-counts g c = c.loop-count.invariant.counts ∙ take_all c.loop-count.count-index c.args.counts.now c.loop-count-test.false

pub returns-clause-next : goal.returns-clause-next
returns-clause-next g c =
    c.loop-count.invariant.next ∙ ap (λ z. c.args.next.now + sum z) (take_all c.loop-count.count-index c.args.counts.now c.loop-count-test.false)
