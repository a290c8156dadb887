use Rattle.kit_words.proofs.Common.{subst, OnOk}
use Rattle.arc_tables.specs.Common.{ListsUsers}
use Rattle.ring_store.proofs.borders.Borders.push_users.Goals as goal

pub returns : goal.returns
returns g c =
    subst (λ m. OnOk c.push_users.result (ListsUsers m c.args.a c.args.b c.args.out.now.items c.push_users.new.out.items)) c.self.view_is c.push_users.ensures
