use Rattle.kit_words.proofs.Common.{◌∙◌, subst, map, into_iter_items}
use Rattle.topo_outline.specs.Common.{values}
use Rattle.map_frame.specs.declared.building.Gathered.{Gathered}
use Rattle.map_frame.specs.Common.{feature_numbers, AllNamed, Tables}
use Rattle.map_frame.proofs.BuiltTables.{laid_from, tables_seen, tables_framed, as_many}
use Rattle.map_frame.proofs.tables.Frame.build.Goals as goal

pub invariant_of-result : goal.invariant_of-result
invariant_of-result g c =
    let ps = c.args.polygons.items in
    let begun : Gathered g.row.A.Denot = record {
      alloc = c.args.alloc;
      features = c.new.result;
      stands = c.new-2.result;
      waiting = c.into_iter.result;
    } in
    let laid = laid_from _ _ begun ps _ c.new.ensures.items c.new-2.ensures.items c.into_iter.ensures.rest c.in_ok-layers.ensures in
    tables_framed _ (values c.args.layers) ps (into_iter_items c.build_layers.new.gathered.waiting) laid c.requires.stands
    (subst (λ z. AllNamed c.in_ok-names.names.items (map feature_numbers z)) c.as_slice.ensures.value c.in_ok-names.ensures)
    (c.len.ensures ∙ c.build_layers.new.gathered.features.ok.0)
    c.in_ok-empty.ensures

pub returns : goal.returns
returns g c =
    let t : Tables g.row.A.Denot = record {
      alloc = c.args.alloc;
      transform = c.args.transform;
      layers = c.in_ok-layers.layers;
      members = c.args.members;
      features = c.build_layers.new.gathered.features;
      stands = c.build_layers.new.gathered.stands;
      count = c.len.result;
      names = c.in_ok-names.names;
      empty = c.in_ok-empty.empty;
    } in
    let left = into_iter_items c.build_layers.new.gathered.waiting in
    let ps = c.args.polygons.items in
    let begun : Gathered g.row.A.Denot = record {
      alloc = c.args.alloc;
      features = c.new.result;
      stands = c.new-2.result;
      waiting = c.into_iter.result;
    } in
    let laid = laid_from _ _ begun ps _ c.new.ensures.items c.new-2.ensures.items c.into_iter.ensures.rest c.in_ok-layers.ensures in
    record {
      doc = tables_seen t (values c.args.layers) ps left laid;
      next = as_many t (values c.args.layers) ps left laid c.requires.stands;
    }
