use Rattle.kit_words.proofs.Common.{◌++◌, map, option_map, sym, ap, ◌∙◌, append_assoc, codes}
use Rattle.map_text.specs.Common.{further, member_if, member_text}
use Rattle.map_text.proofs.Common.{further_joined}
use Rattle.topo_writer.proofs.members.push_head.Goals as goal

pub returns : goal.returns
returns g c =
    let h = c.args.head.now in
    let ids = member_if (codes "\"id\"") (option_map (λ t. t.now) h.id) in
    let properties = member_if (codes "\"properties\"") (option_map (λ t. t.now) h.properties) in
    c.in_ok-push_member_if-2.ensures ∙ ap (λ z. z ++ further (map member_text properties)) c.in_ok-push_member_if.ensures
    ∙ append_assoc c.args.text.now.items (further (map member_text ids)) (further (map member_text properties))
    ∙ ap (λ z. c.args.text.now.items ++ z) (sym (further_joined ids properties))
