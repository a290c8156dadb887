use Rattle.kit_words.proofs.Common.{ℕ, [], subst, IfSome}
use Rattle.arc_tables.specs.Common.{HasSegment, ListsUsers}
use Rattle.ring_store.proofs.borders.Borders.users_around.Goals as goal

pub returns : goal.returns
returns g c =
    subst (λ m. IfSome c.users_around.result (λ found. (b r : ℕ) → HasSegment m c.args.a b r → ListsUsers m c.args.a b [] found.now)) c.self.view_is c.users_around.ensures
