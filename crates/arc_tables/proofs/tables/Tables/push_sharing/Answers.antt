use Rattle.kit_words.proofs.Common.{◌≡◌, ◌++◌, ap, sym, ◌∙◌, [], append-nil, option_copied}
use Rattle.std.proofs.Common.{take_all}
use Rattle.slab.specs.Slab.{get}
use Rattle.arc_tables.specs.Common.{uses_in}
use Rattle.arc_tables.proofs.SharingLemmas.{sharers, sharing_listed}
use Rattle.arc_tables.proofs.tables.Tables.push_sharing.Goals as goal

pub returns-after-loop-u : goal.returns-after-loop-u
returns-after-loop-u g c =
    let t = c.args.self.now in
    let us = c.as_slice-u-items.result.now in
    let is : us ≡ uses_in (get t.rings c.args.r) = c.as_slice-u-items.ensures.value ∙ ap uses_in (ap option_copied (sym c.in-Some.is) ∙ c.get.ensures) in
    sharing_listed t c.requires c.args.r c.args.out.now.items c.loop-u.out.items
    (c.loop-u.invariant ∙ ap (λ z. c.args.out.now.items ++ sharers t.arcs z) (take_all c.loop-u.u-index us c.loop-u-test.false ∙ is))

pub returns-in_default : goal.returns-in_default
returns-in_default g c =
    let t = c.args.self.now in
    let none : [] ≡ uses_in (get t.rings c.args.r) = ap uses_in (ap option_copied (sym c.in_default.is) ∙ c.get.ensures) in
    sharing_listed t c.requires c.args.r c.args.out.now.items c.args.out.now.items
    (sym (append-nil c.args.out.now.items) ∙ ap (λ z. c.args.out.now.items ++ sharers t.arcs z) none)
