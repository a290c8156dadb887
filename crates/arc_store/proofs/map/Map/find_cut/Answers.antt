use Rattle.kit_words.proofs.Common.{sym, ap, ◌∙◌, [], get_or, slice_set, Vec}
use Rattle.grid_geometry.specs.Common.{Position}
use Rattle.ring_machine.specs.Common.{feature_at}
use Rattle.ring_parts.specs.Common.{path_seen, rings_seen, polygons_seen}
use Rattle.arc_store.proofs.PolygonsSeen.{found_cut}
use Rattle.arc_store.proofs.SplitPlan.{set_mapped}
use Rattle.arc_store.proofs.map.Map.find_cut.Goals as goal

pub returns-clause-found : goal.returns-clause-found
returns-clause-found g c =
    let rings = c.replace-rings.result in
    let items = c.in_ok-others.others.items in
    let v = c.replace-rings.ensures.value in
    let place = c.in-Some.place in
    record {
      first = found_cut c.as_slice.result.now (feature_at c.args.self.now.doc c.args.n).polygons
          (ap polygons_seen c.as_slice.ensures.value ∙ c.in_ok-others.ensures)
          (path_seen c.args.path.now) c.in-Some.place c.in-Some.ensures.within c.in-Some.ensures.first c.in-Some.ensures.none_before
          rings (v ∙ c.index_mut.ensures.value ∙ ap (λ z. get_or items c.in-Some.place z) (sym v) ∙ ap (λ z. get_or z c.in-Some.place rings) (sym c.as_slice.ensures.value));
      others = set_mapped (λ (p : Vec (Vec Position g.row.A.Denot) g.row.A.Denot). rings_seen p.items) c.in_ok-others.others.items place c.replace-rings.new.dest
          ∙ ap (slice_set (polygons_seen c.in_ok-others.others.items) place)
          (ap (λ (p : Vec (Vec Position g.row.A.Denot) g.row.A.Denot). rings_seen p.items) c.replace-rings.ensures.after ∙ ap rings_seen c.new.ensures.items)
          ∙ ap (λ z. slice_set z place []) c.in_ok-others.ensures;
    }
