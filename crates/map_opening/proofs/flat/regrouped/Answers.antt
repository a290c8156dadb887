use Rattle.kit_words.proofs.Common.{◌+◌, ◌++◌, ◌∷◌, [], ◌∙◌, refl, sym, ap, ap₂, map, length, take, drop, arith, sum}
use Rattle.kit_words.proofs.Common.{map_push, take_all, drop_all, sum_by_more, sum_by_more_le, mapped_more}
use Rattle.ring_store.proofs.Common.{sum_by-map}
use Rattle.map_opening.specs.Common.{rings_of_features, shape_of, ring_count, lists_seen, numbers_seen}
use Rattle.map_opening.proofs.FlatLists.{all_moved, all_next}
use Rattle.map_opening.proofs.flat.regrouped.Goals as goal

pub loop-counts-init : goal.loop-counts-init
loop-counts-init g c = record {
  all = ap (λ z. rings_of_features (numbers_seen z) ++ c.args.numbers.now) c.new-features.ensures.items;
  alike = ap (λ z. shape_of (numbers_seen z)) c.new-features.ensures.items;
  next = refl;
}

pub next_lists-requires : goal.next_lists-requires
next_lists-requires g c =
    omega (
      arith,
      c.requires,
      c.loop-counts.invariant.next,
      ap sum c.as_slice.ensures.value,
      ap (λ z. sum z.items) c.counts-item.is,
      sum_by-map sum (λ list. list.items) c.args.shape.now,
      sum_by-map sum (λ list. list.items) (take c.loop-counts.counts-index c.args.shape.now),
      sum_by_more_le (λ list. sum list.items) c.args.shape.now c.loop-counts.counts-index c.counts-item.result c.loop-counts-test.true,
    )

pub loop-counts-preserved : goal.loop-counts-preserved
loop-counts-preserved g c =
    let lists = c.in_ok-next_lists.field-0 in
    let pushed = ap numbers_seen c.in_ok-push.ensures.items ∙ map_push (λ polygons. lists_seen polygons.items) c.loop-counts.features.items lists in
    record {
      all = all_next (numbers_seen c.loop-counts.features.items) (numbers_seen c.push.new.self.items) (lists_seen lists.items) c.args.numbers.now c.loop-counts.next c.next_lists.new.next
          pushed c.in_ok-next_lists.ensures.lists c.loop-counts.invariant.all;
      alike = ap shape_of pushed ∙ map_push (map length) (numbers_seen c.loop-counts.features.items) (lists_seen lists.items)
          ∙ ap₂ (λ y z. y ++ z ∷ []) c.loop-counts.invariant.alike (c.in_ok-next_lists.ensures.counts ∙ c.as_slice.ensures.value)
          ∙ sym (mapped_more (λ list. list.items) c.args.shape.now c.loop-counts.counts-index c.counts-item.result c.loop-counts-test.true c.counts-item.is);
      next = omega (
        arith,
        c.loop-counts.invariant.next,
        c.in_ok-next_lists.ensures.next,
        ap sum c.as_slice.ensures.value,
        ap (λ z. sum z.items) c.counts-item.is,
        sum_by-map sum (λ list. list.items) (take c.loop-counts.counts-index c.args.shape.now),
        sum_by-map sum (λ list. list.items) (take (c.loop-counts.counts-index + 1) c.args.shape.now),
        sum_by_more (λ list. sum list.items) c.args.shape.now c.loop-counts.counts-index c.counts-item.result c.loop-counts-test.true,
      );
    }

pub returns : goal.returns
returns g c =
    let shape = ap lists_seen (take_all c.loop-counts.counts-index c.args.shape.now c.loop-counts-test.false) in
    record {
      all = all_moved (rings_of_features (numbers_seen c.loop-counts.features.items)) (drop c.loop-counts.next c.args.numbers.now) c.args.numbers.now
          (drop_all c.loop-counts.next c.args.numbers.now (omega (arith, c.requires, c.loop-counts.invariant.next, ap ring_count shape)))
          c.loop-counts.invariant.all;
      alike = c.loop-counts.invariant.alike ∙ shape;
    }
