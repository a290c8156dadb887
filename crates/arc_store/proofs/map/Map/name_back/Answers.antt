use Rattle.arc_store.proofs.NamedBack.{kept_named, state_named}
use Rattle.arc_store.proofs.map.Map.name_back.Goals as goal

pub invariant_of-self : goal.invariant_of-self
invariant_of-self g c =
    kept_named c.self.invariant c.self.view_is c.args.number c.args.id c.rename.new.self c.rename.ensures.renamed
    c.requires.map c.requires.texts

pub returns : goal.returns
returns g c =
    state_named c.self.invariant c.self.view_is c.args.number c.args.id c.rename.new.self c.rename.ensures.renamed
