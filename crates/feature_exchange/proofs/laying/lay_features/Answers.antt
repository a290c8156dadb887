use Rattle.kit_words.proofs.Common.{◌≡◌, true, map, take, refl, sym, subst, flat_map, list_all, mapped_more}
use Rattle.ring_machine.specs.Common.{is_ring}
use Rattle.map_frame.specs.Common.{feature_numbers}
use Rattle.feature_exchange.specs.Common.{asked, asked_rings}
use Rattle.feature_exchange.proofs.LaidBeside.{laid_twice}
use Rattle.feature_exchange.proofs.LaidSoFar.{so_far_first, so_far_more, feature_agree, all_here}
use Rattle.feature_exchange.proofs.laying.lay_features.Goals as goal

pub loop-change-init : goal.loop-change-init
loop-change-init g c =
    so_far_first (λ l. flat_map (λ p. p) (feature_numbers l)) (λ f l. map (map f) (feature_numbers l)) c.args.tables.now c.args.laid.now.items
    c.requires.stand c.requires.there _ _ c.new-lists.ensures.items refl

pub lay_feature-requires-clause-rings : goal.lay_feature-requires-clause-rings
lay_feature-requires-clause-rings g c =
    subst (λ z. list_all is_ring (asked_rings z) ≡ true) (sym c.change-item.is)
    (all_here asked_rings is_ring c.args.changes.now c.loop-change.change-index c.change-item.result c.loop-change-test.true c.requires.rings)

pub returns-in_err-numbers-clause-laid : goal.returns-in_err-numbers-clause-laid
returns-in_err-numbers-clause-laid g c =
    laid_twice c.args.tables.now.vertices c.args.tables.now.borders c.args.laid.now.items c.loop-change.tables.vertices c.loop-change.tables.borders c.loop-change.laid.items
    c.lay_feature.new.tables.vertices c.lay_feature.new.tables.borders c.lay_feature.new.laid.items c.loop-change.invariant.more.laid c.lay_feature.ensures.laid

pub returns-in_err-push-clause-laid : goal.returns-in_err-push-clause-laid
returns-in_err-push-clause-laid g c =
    laid_twice c.args.tables.now.vertices c.args.tables.now.borders c.args.laid.now.items c.loop-change.tables.vertices c.loop-change.tables.borders c.loop-change.laid.items
    c.lay_feature.new.tables.vertices c.lay_feature.new.tables.borders c.lay_feature.new.laid.items c.loop-change.invariant.more.laid c.lay_feature.ensures.laid

pub loop-change-preserved : goal.loop-change-preserved
loop-change-preserved g c =
    so_far_more (λ l. flat_map (λ p. p) (feature_numbers l)) (λ f l. map (map f) (feature_numbers l)) (λ f h x a. feature_agree f h (feature_numbers x) a)
    c.args.tables.now c.args.laid.now.items c.loop-change.tables c.loop-change.laid.items c.lay_feature.new.tables c.lay_feature.new.laid.items
    c.loop-change.lists.items (map asked (take c.loop-change.change-index c.args.changes.now))
    c.loop-change.invariant c.in_ok-numbers.numbers (asked c.change-item.result)
    (record {
      stand = c.lay_feature.ensures.stand;
      laid = c.lay_feature.ensures.laid;
      numbers = c.in_ok-numbers.ensures.numbers;
      cells = c.lay_feature.ensures.cells;
    })
    c.in_ok-numbers.ensures.at
    _ _
    c.in_ok-push.ensures.items
    (mapped_more asked c.args.changes.now c.loop-change.change-index c.change-item.result c.loop-change-test.true c.change-item.is)
