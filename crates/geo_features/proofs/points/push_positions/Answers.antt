use Rattle.kit_words.proofs.Common.{◌++◌, ◌∷◌, []}
use Rattle.json_spans.specs.Common.{node}
use Rattle.geo_features.specs.Points.{point_position}
use Rattle.geo_features.specs.Seen.{view_style}
use Rattle.geo_features.proofs.Carrying.{Put, put_of}
use Rattle.geo_features.proofs.Listed.{list_next}
use Rattle.geo_features.proofs.PointTexts.{one_there}
use Rattle.geo_features.proofs.Walking.{each_turn}
use Rattle.geo_features.proofs.points.push_positions.Goals as goal

pub loop-position-preserved : goal.loop-position-preserved
loop-position-preserved g c =
    let s = view_style c.args.style.now in
    let n = c.args.number in
    let done = c.loop-position.invariant.done in
    let p : Put c.push_comma.new.text.items c.push_position.new.text.items (point_position s n (node c.in-Some.position)) = put_of _ _ _ c.in-Ok.ensures in
    record {
      done = done ++ p.text ∷ [];
      more = one_there done p.text;
      text = list_next done p.text c.loop-position.more _ _ _ _ c.loop-position.invariant.more c.loop-position.invariant.text c.in_ok-push_comma.ensures p.put;
      rest = each_turn (point_position s n) done p.text _ _ _ _ c.in-Some.ensures.steps p.is c.loop-position.invariant.rest;
    }
