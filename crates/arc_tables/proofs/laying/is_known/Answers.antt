use Rattle.kit_words.proofs.Common.{◌≡◌, sym, ap, ◌∙◌, Some}
use Rattle.std.proofs.Common.{option_copied}
use Rattle.slab.specs.Slab.{get}
use Rattle.arc_tables.specs.Common.{uses_in, uses_arc}
use Rattle.arc_tables.proofs.Knowing.{known_by_uses}
use Rattle.arc_tables.proofs.laying.is_known.Goals as goal

pub returns-then-uses-users : goal.returns-then-uses-users
returns-then-uses-users g c =
    let held : get c.args.rings.now c.args.r ≡ Some c.unwrap-2.result.now = sym c.get-2.ensures ∙ ap option_copied c.unwrap-2.ensures in
    c.has_use.ensures ∙ ap (uses_arc c.args.i) (c.as_slice-uses.ensures.value ∙ sym (ap uses_in held))
    ∙ known_by_uses c.args.arcs.now c.args.rings.now c.requires.known c.args.r c.args.i
