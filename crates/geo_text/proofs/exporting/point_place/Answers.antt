use Rattle.kit_words.proofs.Common.{◌≡◌, ◌<◌, ◌∙◌, ap, arith, get_or, length, map, rules}
use Rattle.json_spans.specs.Common.{node}
use Rattle.topo_reader.specs.Common.{root_of}
use Rattle.decimal_texts.specs.Common.{all_geometries}
use Rattle.decimal_texts.specs.declared.geometries.Shape.TheVariants as shape
use Rattle.geo_text.specs.Places.{point_place}
use Rattle.geo_text.proofs.PointPlaces.{place_there, point_place_within}
use Rattle.geo_text.proofs.exporting.point_place.Goals as goal

pub returns-in-Some-clause-value : goal.returns-in-Some-clause-value
returns-in-Some-clause-value g c =
    let bytes = c.args.bytes.now in
    let n = c.args.point in
    let spans = c.in_ok-points.points.items in
    let span = c.in-Some.found.now in
    let all : map node spans ≡ all_geometries shape.Points (root_of bytes) =
    c.in_ok-points.ensures ∙ ap (all_geometries shape.Points) (ap node c.span.ensures ∙ c.in-Ok.ensures.span) in
    let same : c.in-Ok-try_from.number ≡ n = search rules in
    let listed : c.as_slice.result.now ≡ spans = c.as_slice.ensures.value in
    let lt : n < length spans = omega (arith, same, ap length listed, c.in-Some.ensures.lookup.3.0) in
    let is : span ≡ get_or spans n span = c.in-Some.ensures.lookup.1 ∙ ap (λ z. get_or z c.in-Ok-try_from.number span) listed ∙ ap (λ i. get_or spans i span) same in
    place_there bytes spans all n span lt is

pub returns-in-Some-clause-within : goal.returns-in-Some-clause-within
returns-in-Some-clause-within g c =
    let bytes = c.args.bytes.now in
    let n = c.args.point in
    let spans = c.in_ok-points.points.items in
    let span = c.in-Some.found.now in
    let all : map node spans ≡ all_geometries shape.Points (root_of bytes) =
    c.in_ok-points.ensures ∙ ap (all_geometries shape.Points) (ap node c.span.ensures ∙ c.in-Ok.ensures.span) in
    let same : c.in-Ok-try_from.number ≡ n = search rules in
    let listed : c.as_slice.result.now ≡ spans = c.as_slice.ensures.value in
    let lt : n < length spans = omega (arith, same, ap length listed, c.in-Some.ensures.lookup.3.0) in
    let is : span ≡ get_or spans n span = c.in-Some.ensures.lookup.1 ∙ ap (λ z. get_or z c.in-Ok-try_from.number span) listed ∙ ap (λ i. get_or spans i span) same in
    let at : span.at ≡ point_place bytes n = place_there bytes spans all n span lt is in
    omega (arith, at, point_place_within bytes n)
