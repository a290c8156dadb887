use Rattle.kit_words.proofs.Common.{ap, ◌∙◌, length, map, with_items_is, length-map}
use Rattle.arc_tables.specs.Common.{onto}
use Rattle.arc_tables.proofs.Removing.{collapses_by}
use Rattle.arc_tables.proofs.editing.collapse.Goals as goal

pub returns : goal.returns
returns g c =
    let f = onto c.args.p c.args.b in
    let same = ap length c.move_keys.ensures ∙ length-map c.deref_mut.result.now f ∙ c.deref_mut.ensures.len in
    collapses_by c.args.p c.args.b c.args.path.now.items c.draw_in.new.path.items _ c.requires.apart c.draw_in.ensures.edges c.draw_in.ensures.keys
    (with_items_is c.draw_in.new.path c.move_keys.new.keys same ∙ c.move_keys.ensures ∙ ap (map f) c.deref_mut.ensures.value)
