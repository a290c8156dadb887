use Rattle.kit_words.proofs.Common.{◌∙◌, string_bytes, contains_text, bytes_eq, on_ok_weaker}
use Rattle.std.proofs.lemmas.Map.Text.{btree_set_updates_text}
use Rattle.topo_outline.proofs.Naming.{either}
use Rattle.geo_features.proofs.names.note.Goals as goal

pub returns-clause-names : goal.returns-clause-names
returns-clause-names g c =
    let name = string_bytes c.args.name in
    on_ok_weaker c.insert.result (λ updates t. btree_set_updates_text name c.args.seen.now c.insert.new.self _ updates t ∙ either (bytes_eq name t) (contains_text c.args.seen.now t)) c.insert.ensures.updates
