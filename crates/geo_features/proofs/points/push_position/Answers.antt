use Rattle.kit_words.proofs.Common.{◌++◌, ◌∷◌, [], arith, nat_lt}
use Rattle.json_spans.specs.Common.{node}
use Rattle.geo_features.specs.Points.{number_at}
use Rattle.geo_features.specs.Seen.{view_style}
use Rattle.geo_features.proofs.Carrying.{Put, put_of}
use Rattle.geo_features.proofs.Listed.{list_next}
use Rattle.geo_features.proofs.PointTexts.{more_same, place_next, position_end, position_stop, position_turn}
use Rattle.geo_features.proofs.points.push_position.Goals as goal

pub returns-in-Err : goal.returns-in-Err
returns-in-Err g c =
    position_stop c.in-Err.fault (view_style c.args.style.now) c.args.number (node c.args.position) c.loop-part.invariant.done c.loop-part.i _ _ _
    c.loop-part.invariant.place c.in-Some.ensures.steps c.in-Err.ensures c.loop-part.invariant.rest

pub loop-part-preserved : goal.loop-part-preserved
loop-part-preserved g c =
    let s = view_style c.args.style.now in
    let n = c.args.number in
    let i = c.loop-part.i in
    let done = c.loop-part.invariant.done in
    let p : Put c.push_comma.new.text.items c.push_number.new.text.items (number_at s n i (node c.in-Some.part)) = put_of _ _ _ c.in-Ok.ensures in
    record {
      done = done ++ p.text ∷ [];
      place = place_next done p.text i _ c.loop-part.invariant.place c.saturating_add-i.ensures;
      text = list_next done p.text (nat_lt 0 i) _ _ _ _ (more_same i _ 18446744073709551615 c.loop-part.invariant.place (omega arith)) c.loop-part.invariant.text c.in_ok-push_comma.ensures p.put;
      rest = position_turn s n done i _ _ _ p.text _ c.loop-part.invariant.place c.in-Some.ensures.steps p.is c.loop-part.invariant.rest;
    }

pub returns : goal.returns
returns g c =
    position_end (view_style c.args.style.now) c.args.number (node c.args.position) c.loop-part.invariant.done _ _ _ _
    c.in-None.ensures.steps.0 c.loop-part.invariant.rest c.loop-part.invariant.text c.in_ok-push-2.ensures.items
