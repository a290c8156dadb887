use Rattle.kit_words.proofs.Common.{◌≡◌, ◌∙◌, ◌+◌, ◌-◌, ◌++◌, suc, ap, arith, drop, into_iter_items, map, refl, sym, take}
use Rattle.ring_parts.specs.Common.{polygons_seen}
use Rattle.topo_reader.specs.Common.{feature_positions}
use Rattle.cover_report.specs.Layers.{numbers_in, owners_from, polygons_in}
use Rattle.cover_report.proofs.Taken.{left_out, none_left, none_out, numbers_next, owners_next, polygons_next}
use Rattle.cover_report.proofs.layers.next_polygons.Goals as goal

pub loop-number-init : goal.loop-number-init
loop-number-init g c =
    let rest = into_iter_items c.args.rest.now in
    let all : c.args.first + c.args.count - c.args.first ≡ c.args.count = omega arith in
    record {
      polygons = ap (λ z. polygons_seen z ++ polygons_in (map feature_positions (take (c.args.first + c.args.count - c.args.first) rest))) c.new.ensures.items ∙ ap (λ n. polygons_in (map feature_positions (take n rest))) all;
      owners = ap (λ z. z ++ owners_from c.args.first (map feature_positions (take (c.args.first + c.args.count - c.args.first) rest))) c.new-2.ensures.items ∙ ap (λ n. owners_from c.args.first (map feature_positions (take n rest))) all;
      numbers = ap (λ z. z ++ numbers_in (map feature_positions (take (c.args.first + c.args.count - c.args.first) rest))) c.new-3.ensures.items ∙ ap (λ n. numbers_in (map feature_positions (take n rest))) all;
      rest = ap (λ n. drop n rest) all;
    }

pub loop-number-preserved : goal.loop-number-preserved
loop-number-preserved g c =
    let n = c.loop-number.number in
    let before = into_iter_items c.loop-number.rest in
    let after = into_iter_items c.push_next.new.rest in
    let one : n + 1 ≡ suc n = omega arith in
    let less : c.args.first + c.args.count - n ≡ suc (c.args.first + c.args.count - (n + 1)) = omega (arith, c.loop-number-test.true) in
    let owned = c.loop-number.owned in
    let new = c.push_next.new.owned in
    let all = map feature_positions (take c.args.count (into_iter_items c.args.rest.now)) in
    let more = c.args.first + c.args.count - (n + 1) in
    record {
      polygons = polygons_next feature_positions before after (polygons_seen new.polygons.items) (polygons_seen owned.polygons.items) (polygons_in all) (suc more) more
          refl c.push_next.ensures.rest c.in_ok-push_next.ensures.polygons (ap (λ k. polygons_seen owned.polygons.items ++ polygons_in (map feature_positions (take k before))) (sym less) ∙ c.loop-number.invariant.polygons);
      owners = owners_next feature_positions before after n (n + 1) new.owners.items owned.owners.items (owners_from c.args.first all) (suc more) more
          one refl c.push_next.ensures.rest c.in_ok-push_next.ensures.owners (ap (λ k. owned.owners.items ++ owners_from n (map feature_positions (take k before))) (sym less) ∙ c.loop-number.invariant.owners);
      numbers = numbers_next feature_positions before after new.numbers.items owned.numbers.items (numbers_in all) (suc more) more
          refl c.push_next.ensures.rest c.in_ok-push_next.ensures.numbers (ap (λ k. owned.numbers.items ++ numbers_in (map feature_positions (take k before))) (sym less) ∙ c.loop-number.invariant.numbers);
      rest = left_out before after (drop c.args.count (into_iter_items c.args.rest.now)) (c.args.first + c.args.count - n) more less c.push_next.ensures.rest c.loop-number.invariant.rest;
    }

pub returns-clause-polygons : goal.returns-clause-polygons
returns-clause-polygons g c =
    none_left (λ fs. polygons_in (map feature_positions fs)) (into_iter_items c.loop-number.rest) _ _ _ refl (omega (arith, c.loop-number-test.false)) c.loop-number.invariant.polygons

pub returns-clause-owners : goal.returns-clause-owners
returns-clause-owners g c =
    none_left (λ fs. owners_from c.loop-number.number (map feature_positions fs)) (into_iter_items c.loop-number.rest) _ _ _ refl (omega (arith, c.loop-number-test.false)) c.loop-number.invariant.owners

pub returns-clause-numbers : goal.returns-clause-numbers
returns-clause-numbers g c =
    none_left (λ fs. numbers_in (map feature_positions fs)) (into_iter_items c.loop-number.rest) _ _ _ refl (omega (arith, c.loop-number-test.false)) c.loop-number.invariant.numbers

pub returns-clause-rest : goal.returns-clause-rest
returns-clause-rest g c = none_out (into_iter_items c.loop-number.rest) _ _ (omega (arith, c.loop-number-test.false)) c.loop-number.invariant.rest
