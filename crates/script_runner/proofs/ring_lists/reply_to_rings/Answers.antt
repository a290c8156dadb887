use Rattle.kit_words.proofs.Common.{◌≡◌, ◌∙◌, ◌<◌, ◌≤◌, true, false, sym, ap, [], length, arith, is_some, unwrap_or}
use Rattle.kit_words.proofs.Common.{slice_get, false≢true, length-map}
use Rattle.ring_machine.specs.Common.{has_feature, feature_at}
use Rattle.point_queries.proofs.Common.{numbers_shown, count_is, is_shown}
use Rattle.script_runner.specs.Common.{polygon_list_text}
use Rattle.script_runner.proofs.ReplyLemmas.{listed, not_listed}
use Rattle.script_runner.proofs.ListLemmas.{item_step, items_end}
use Rattle.script_runner.proofs.ring_lists.reply_to_rings.Goals as goal

pub returns-in_default : goal.returns-in_default
returns-in_default g c =
    let none : has_feature c.args.map.now.doc c.args.f ≡ false = is_shown c.args.map.now.doc c.args.f ∙ ap is_some (sym c.feature.ensures.shown ∙ c.in_default.is) in
    not_listed c.args.map.now.doc c.args.f c.args.text.now.items c.extend_from_slice.new.self.items (λ h. false≢true (sym none ∙ h)) c.in_ok-extend_from_slice.ensures.items

pub push_polygon-requires : goal.push_polygon-requires
push_polygon-requires g c =
    let polygons = (feature_at c.args.map.now.doc c.args.f).polygons in
    let numbers = numbers_shown c.args.map.now.doc c.args.f c.in-Some.feature (sym c.in-Some.is ∙ c.feature.ensures.shown) in
    c.ring_count.ensures ∙ ap (λ ns. unwrap_or (slice_get ns c.loop-polygon.polygon) 0) numbers ∙ count_is polygons c.loop-polygon.polygon

pub loop-polygon-preserved : goal.loop-polygon-preserved
loop-polygon-preserved g c =
    let polygons = (feature_at c.args.map.now.doc c.args.f).polygons in
    let numbers = numbers_shown c.args.map.now.doc c.args.f c.in-Some.feature (sym c.in-Some.is ∙ c.feature.ensures.shown) in
    let long = c.polygon_count-polygon-end.ensures ∙ ap length numbers ∙ length-map polygons length in
    let within : c.loop-polygon.polygon < length polygons = omega (arith, long, c.loop-polygon-test.true) in
    item_step polygon_list_text polygons c.loop-polygon.polygon [] within c.loop-polygon.text.items c.push_comma.new.text.items c.push_polygon.new.text.items c.in_ok-push_comma.ensures c.in_ok-push_polygon.ensures
    ∙ c.loop-polygon.invariant

pub returns : goal.returns
returns g c =
    let polygons = (feature_at c.args.map.now.doc c.args.f).polygons in
    let numbers = numbers_shown c.args.map.now.doc c.args.f c.in-Some.feature (sym c.in-Some.is ∙ c.feature.ensures.shown) in
    let long = c.polygon_count-polygon-end.ensures ∙ ap length numbers ∙ length-map polygons length in
    let past : length polygons ≤ c.loop-polygon.polygon = omega (arith, long, c.loop-polygon-test.false) in
    let some : has_feature c.args.map.now.doc c.args.f ≡ true = is_shown c.args.map.now.doc c.args.f ∙ ap is_some (sym c.feature.ensures.shown ∙ c.in-Some.is) in
    listed c.args.map.now.doc c.args.f c.args.text.now.items c.extend_from_slice-3.new.self.items some
    (items_end polygon_list_text polygons c.loop-polygon.polygon c.args.text.now.items c.loop-polygon.text.items c.extend_from_slice-3.new.self.items past c.loop-polygon.invariant c.in_ok-extend_from_slice-3.ensures.items)
