use Rattle.kit_words.proofs.Common.{◌≡◌, subst, Some, IfSome}
use Rattle.std.specs.FinMap as table
use Rattle.grid_geometry.specs.Common.{segment}
use Rattle.ring_store.proofs.TableLemmas.{found_there, made_there}
use Rattle.ring_store.proofs.changes.read_parting.Goals as goal

pub unwrap-first-requires : goal.unwrap-first-requires
unwrap-first-requires g c = found_there c.args.tables.now.vertices c.args.a c.key_of.result c.requires.first c.key_of.ensures.absent

pub unwrap-second-requires : goal.unwrap-second-requires
unwrap-second-requires g c = found_there c.args.tables.now.vertices c.args.b c.key_of-2.result c.requires.second c.key_of-2.ensures.absent

pub unwrap-before-requires : goal.unwrap-before-requires
unwrap-before-requires g c = made_there c.args.a c.args.b c.new.result c.requires.different c.new.ensures.none

pub returns : goal.returns
returns g c = record {
  read = record {
    first = subst (λ o. IfSome o (λ k. table.get c.args.tables.now.vertices k ≡ Some c.args.a)) c.unwrap-first.ensures c.key_of.ensures.found;
    second = subst (λ o. IfSome o (λ k. table.get c.args.tables.now.vertices k ≡ Some c.args.b)) c.unwrap-second.ensures c.key_of-2.ensures.found;
    goes = subst (λ o. IfSome o (λ s. s ≡ segment c.args.a c.args.b)) c.unwrap-before.ensures c.new.ensures.some;
    comes = c.in_ok-after.ensures;
  };
}
