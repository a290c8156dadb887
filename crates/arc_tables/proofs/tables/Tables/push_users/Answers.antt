use Rattle.kit_words.proofs.Common.{◌≡◌, ap, sym, ◌∙◌, Some, option_copied}
use Rattle.slab.specs.Slab.{get}
use Rattle.arc_tables.specs.Common.{path_of, users_in}
use Rattle.arc_tables.proofs.Inserting.{placed}
use Rattle.arc_tables.proofs.UserLemmas.{listed_here, listed_nowhere}
use Rattle.arc_tables.proofs.tables.Tables.push_users.Goals as goal

pub returns-in_ok-extend_from_slice : goal.returns-in_ok-extend_from_slice
returns-in_ok-extend_from_slice g c =
    let t = c.args.self.now in
    let n = c.in-Some.place.arc in
    let is : get t.arcs n ≡ Some c.unwrap-arc.result.now = sym c.get.ensures ∙ ap option_copied c.unwrap-arc.ensures in
    listed_here t c.args.a c.args.b c.requires n
    (placed c.args.a c.args.b c.in-Some.place.at c.in-Some.place.back (path_of t n) c.in-Some.ensures.some)
    c.args.out.now.items c.extend_from_slice.new.self.items c.as_slice.result.now
    (c.as_slice.ensures ∙ sym (ap users_in is)) c.in_ok-extend_from_slice.ensures.items

pub returns-in_default : goal.returns-in_default
returns-in_default g c =
    listed_nowhere c.args.self.now c.args.a c.args.b c.in_default.ensures.none c.args.out.now.items
