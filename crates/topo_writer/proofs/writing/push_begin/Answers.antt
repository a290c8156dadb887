use Rattle.kit_words.proofs.Common.{◌++◌, map, option_map, codes}
use Rattle.map_text.specs.Common.{further, member_if, member_text}
use Rattle.topo_writer.proofs.FeatureTexts.{then}
use Rattle.topo_writer.proofs.writing.push_begin.Goals as goal

pub returns : goal.returns
returns g c =
    let o = c.args.text.now.items in
    let head = codes "{\"type\":\"Topology\"" in
    let transform = further (map member_text (member_if (codes "\"transform\"") (option_map (λ t. t.now) c.args.transform))) in
    let tail = codes ",\"objects\":{" in
    then o head (transform ++ tail) c.extend_from_slice.new.self.items c.extend_from_slice-2.new.self.items c.in_ok-extend_from_slice.ensures.items
    (then c.extend_from_slice.new.self.items transform tail c.push_member_if.new.text.items c.extend_from_slice-2.new.self.items c.in_ok-push_member_if.ensures c.in_ok-extend_from_slice-2.ensures.items)
