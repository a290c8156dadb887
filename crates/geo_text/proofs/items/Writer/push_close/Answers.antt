use Rattle.kit_words.proofs.Common.{map, subst}
use Rattle.topo_outline.specs.Common.{view_head, view_kept}
use Rattle.geo_features.specs.Features.{collection_end}
use Rattle.geo_features.specs.Gives.{IsGeoFault}
use Rattle.geo_text.specs.Items.{after_text}
use Rattle.geo_features.specs.Names.{not_of_feature}
use Rattle.geo_text.specs.Seen.{open_heads}
use Rattle.geo_features.proofs.Carrying.{Put, put_of}
use Rattle.geo_text.proofs.Closing.{close_stops}
use Rattle.geo_text.proofs.items.Writer.push_close.Goals as goal
use Rattle.kit_words.proofs.Common.{◌≡◌, ◌++◌, Ok}
use Rattle.geo_features.specs.Faults.{◌>>=◌}

pub returns-in-Err-push_after-clause-text : goal.returns-in-Err-push_after-clause-text
returns-in-Err-push_after-clause-text g c =
    let heads = c.pop.new.self.items in
    let head = c.in-Some.head in
    let before : Put c.args.text.now.items c.push_collection_end.new.text.items (collection_end (view_head head.now).members) =
    put_of c.args.text.now.items c.push_collection_end.new.text.items (collection_end (view_head head.now).members)
    (subst (λ z. (collection_end (map view_kept z) >>= λ xs. Ok (c.args.text.now.items ++ xs)) ≡ Ok c.push_collection_end.new.text.items) c.as_slice-members.ensures.value c.in-Ok.ensures) in
    close_stops heads head c.args.at.now.heads.items c.in-Some.ensures.items c.in-Err-push_after.fault before.text before.is
    (subst (λ z. IsGeoFault c.in-Err-push_after.fault (after_text (open_heads heads) not_of_feature (map view_kept z))) c.as_slice-members.ensures.value c.in-Err-push_after.ensures)
