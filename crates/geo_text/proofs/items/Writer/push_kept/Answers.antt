use Rattle.kit_words.proofs.Common.{◌≡◌, ◌++◌, Ok, ap, false, map, subst, sym}
use Rattle.topo_outline.specs.Common.{view_kept}
use Rattle.ring_machine.specs.Common.{Head}
use Rattle.geo_features.specs.Faults.{◌>>=◌}
use Rattle.geo_features.specs.Features.{point_geometry}
use Rattle.geo_features.specs.Gives.{Appends, IsGeoFault}
use Rattle.geo_text.specs.Items.{after_text, before_text}
use Rattle.geo_features.specs.Names.{not_of_feature}
use Rattle.geo_features.specs.Points.{point_head}
use Rattle.geo_text.specs.Seen.{view_progress}
use Rattle.geo_features.specs.Seen.{view_style}
use Rattle.geo_features.proofs.Carrying.{Put, appends_three, put_of, stops_first, stops_second}
use Rattle.geo_text.proofs.ItemTexts.{kept_whole}
use Rattle.geo_text.proofs.items.Writer.push_kept.Goals as goal

pub returns-in-Err : goal.returns-in-Err
returns-in-Err g c t is =
    let at = view_progress c.args.at.now in
    subst (IsGeoFault c.in-Err.fault) (sym (kept_whole c.args.self.now.flattens (view_style c.args.self.now.style) at t))
    (stops_first c.in-Err.fault (before_text at (point_head t) false) _
    (subst (λ h. IsGeoFault c.in-Err.fault (before_text at h false)) is.head c.in-Err.ensures))

pub returns-in-Err-push_point : goal.returns-in-Err-push_point
returns-in-Err-push_point g c t is =
    let at = view_progress c.args.at.now in
    let s = view_style c.args.self.now.style in
    let before : Put c.args.text.now.items c.push_before.new.text.items (before_text at (point_head t) false) =
    put_of c.args.text.now.items c.push_before.new.text.items (before_text at (point_head t) false)
    (subst (λ h. (before_text at h false >>= λ xs. Ok (c.args.text.now.items ++ xs)) ≡ Ok c.push_before.new.text.items) is.head c.in-Ok.ensures) in
    subst (IsGeoFault c.in-Err-push_point.fault) (sym (kept_whole c.args.self.now.flattens s at t))
    (stops_second c.in-Err-push_point.fault (before_text at (point_head t) false) (point_geometry s at.point t) (after_text at.heads not_of_feature (point_head t).members) before.text before.is
    (subst (λ n. IsGeoFault c.in-Err-push_point.fault (point_geometry s n t)) c.requires (c.in-Err-push_point.ensures t is)))

pub returns : goal.returns
returns g c t is =
    let at = view_progress c.args.at.now in
    let s = view_style c.args.self.now.style in
    let before : Put c.args.text.now.items c.push_before.new.text.items (before_text at (point_head t) false) =
    put_of c.args.text.now.items c.push_before.new.text.items (before_text at (point_head t) false)
    (subst (λ h. (before_text at h false >>= λ xs. Ok (c.args.text.now.items ++ xs)) ≡ Ok c.push_before.new.text.items) is.head c.in-Ok.ensures) in
    let point : Put c.push_before.new.text.items c.push_point.new.text.items (point_geometry s at.point t) =
    put_of c.push_before.new.text.items c.push_point.new.text.items (point_geometry s at.point t)
    (subst (λ n. (point_geometry s n t >>= λ xs. Ok (c.push_before.new.text.items ++ xs)) ≡ Ok c.push_point.new.text.items) c.requires (c.in-Ok-push_point.ensures t is)) in
    subst (λ r. Appends c.args.text.now.items c.push_after.new.text.items c.push_after.result r) (sym (kept_whole c.args.self.now.flattens s at t))
    (appends_three _ _ _ _ (before_text at (point_head t) false) (point_geometry s at.point t) (after_text at.heads not_of_feature (point_head t).members) c.push_after.result before point
    (subst (λ ms. Appends c.push_point.new.text.items c.push_after.new.text.items c.push_after.result (after_text at.heads not_of_feature ms)) (ap (λ (h : Head). h.members) is.head)
    (subst (λ z. Appends c.push_point.new.text.items c.push_after.new.text.items c.push_after.result (after_text at.heads not_of_feature (map view_kept z))) c.as_slice.ensures.value c.push_after.ensures)))
