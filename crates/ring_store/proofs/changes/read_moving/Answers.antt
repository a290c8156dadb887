use Rattle.kit_words.proofs.Common.{◌≡◌, ◌∙◌, ap, subst, Some, IfSome}
use Rattle.std.specs.FinMap as table
use Rattle.ring_machine.specs.Common.{has}
use Rattle.ring_store.specs.Common.{spokes}
use Rattle.ring_store.proofs.AroundPlan.{not_around}
use Rattle.ring_store.proofs.TableLemmas.{found_there}
use Rattle.ring_store.proofs.changes.read_moving.Goals as goal

pub unwrap-key-requires : goal.unwrap-key-requires
unwrap-key-requires g c = found_there c.args.tables.now.vertices c.args.p c.key_of.result c.requires.here c.key_of.ensures.absent

pub positions_around-requires : goal.positions_around-requires
positions_around-requires g c =
    c.requires.placed c.unwrap-key.result (subst (λ o. IfSome o (λ k. table.get c.args.tables.now.vertices k ≡ Some c.args.p)) c.unwrap-key.ensures c.key_of.ensures.found)

pub spokes-requires : goal.spokes-requires
spokes-requires g c =
    let found = subst (λ o. IfSome o (λ k. table.get c.args.tables.now.vertices k ≡ Some c.args.p)) c.unwrap-key.ensures c.key_of.ensures.found in
    ap (λ z. has z c.args.p) c.as_slice.ensures.value
    ∙ not_around c.args.tables.now.vertices c.args.tables.now.borders c.unwrap-key.result c.in_ok-around.around.items c.in_ok-around.ensures c.args.p (λ x j. (c.requires.apart c.unwrap-key.result x found j).0)

pub spokes-requires-2 : goal.spokes-requires-2
spokes-requires-2 g c =
    let found = subst (λ o. IfSome o (λ k. table.get c.args.tables.now.vertices k ≡ Some c.args.p)) c.unwrap-key.ensures c.key_of.ensures.found in
    ap (λ z. has z c.args.q) c.as_slice-2.ensures.value
    ∙ not_around c.args.tables.now.vertices c.args.tables.now.borders c.unwrap-key.result c.in_ok-around.around.items c.in_ok-around.ensures c.args.q (λ x j. (c.requires.apart c.unwrap-key.result x found j).1)

pub returns : goal.returns
returns g c = record {
  read = record {
    here = subst (λ o. IfSome o (λ k. table.get c.args.tables.now.vertices k ≡ Some c.args.p)) c.unwrap-key.ensures c.key_of.ensures.found;
    all = c.in_ok-around.ensures;
    goes = c.in_ok-before.ensures ∙ ap (spokes c.args.p) c.as_slice.ensures.value;
    comes = c.in_ok-after.ensures ∙ ap (spokes c.args.q) c.as_slice-2.ensures.value;
  };
}
