use Rattle.kit_words.proofs.Common.{arith, ap, ◌∙◌}
use Rattle.arc_tables.specs.Common.{users_in}
use Rattle.arc_tables.proofs.UserLemmas.{listed_alone}
use Rattle.arc_tables.proofs.tables.Tables.users_around.Goals as goal

pub returns : goal.returns
returns g c = λ b r.
    listed_alone c.args.self.now c.args.a b c.requires c.arcs_at-among.result.now _ c.arcs_at-among.ensures (omega (arith, c.if-among-ne1.false)) c.as_slice.result.now
    (c.as_slice.ensures ∙ ap users_in c.in_ok-arc.ensures) r
