use Rattle.kit_words.proofs.Common.{arith, refl, sym, ap, ◌∙◌, ◌+◌, ◌++◌, map, take, take_all, codes, append_assoc, appended_three}
use Rattle.std.proofs.Common.{append-nil}
use Rattle.map_text.specs.Common.{commas}
use Rattle.cover_places.specs.Places.{place_seen}
use Rattle.cover_places.specs.Text.{point_text}
use Rattle.cover_report.proofs.ToldLemmas.{told_more}
use Rattle.cover_places.proofs.Listed.{text_step, told_length}
use Rattle.cover_places.proofs.topology.push_points.Goals as goal

pub loop-index-init : goal.loop-index-init
loop-index-init g c = c.in_ok-extend_from_slice.ensures.items ∙ sym (append-nil (c.args.text.now.items ++ codes "{\"type\":\"GeometryCollection\",\"geometries\":["))

pub loop-index-preserved : goal.loop-index-preserved
loop-index-preserved g c =
    let places = c.args.places.now in
    let i = c.loop-index.index in
    let place = c.index-places-index.result in
    text_step (map point_text (map place_seen (take i places))) (map point_text (map place_seen (take (i + 1) places))) (point_text (place_seen place)) i
    (told_more point_text place_seen places i place c.loop-index-test.true c.index-places-index.is)
    (told_length place_seen places i place c.loop-index-test.true c.index-places-index.is point_text)
    (c.args.text.now.items ++ codes "{\"type\":\"GeometryCollection\",\"geometries\":[") c.loop-index.text.items c.push_comma.new.text.items c.push_point.new.text.items
    c.loop-index.invariant c.in_ok-push_comma.ensures c.in_ok-push_point.ensures

pub returns : goal.returns
returns g c =
    let head = codes "{\"type\":\"GeometryCollection\",\"geometries\":[" in
    let points = commas (map point_text (map place_seen c.args.places.now)) in
    appended_three c.args.text.now.items head points (codes "]}") (c.args.text.now.items ++ head) c.loop-index.text.items _ refl
    (c.loop-index.invariant ∙ ap (λ z. (c.args.text.now.items ++ head) ++ commas (map point_text (map place_seen z))) (take_all c.loop-index.index c.args.places.now (omega arith)))
    c.in_ok-extend_from_slice-2.ensures.items
    ∙ ap (λ z. c.args.text.now.items ++ (head ++ z)) (sym (append_assoc points (codes "]") (codes "}")))
