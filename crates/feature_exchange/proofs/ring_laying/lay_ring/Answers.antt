use Rattle.kit_words.proofs.Common.{sym, ap, ◌∙◌, subst, Contains}
use Rattle.std.specs.FinMap as table
use Rattle.ring_machine.specs.Common.{are_distinct}
use Rattle.ring_store.specs.Common.{AllRound}
use Rattle.feature_exchange.specs.Common.{LeavesVisited}
use Rattle.feature_exchange.proofs.Exchanged.{stands_back}
use Rattle.feature_exchange.proofs.ring_laying.lay_ring.Goals as goal

pub returns-in-Ok-clause-kept : goal.returns-in-Ok-clause-kept
returns-in-Ok-clause-kept g c = c.lay_new.ensures.put.kept

pub remove_all_lonely-requires-clause-round : goal.remove_all_lonely-requires-clause-round
remove_all_lonely-requires-clause-round g c = subst AllRound (sym c.in-Err.ensures.err) c.requires.stands.round

pub remove_all_lonely-requires-clause-placed : goal.remove_all_lonely-requires-clause-placed
remove_all_lonely-requires-clause-placed g c = λ k i. c.lay_new.ensures.put.placed k (subst (λ z. Contains z k) c.as_slice.ensures.value i)

pub remove_all_lonely-requires-clause-different : goal.remove_all_lonely-requires-clause-different
remove_all_lonely-requires-clause-different g c = ap are_distinct c.as_slice.ensures.value ∙ c.lay_new.ensures.different

pub returns-in-Err-clause-stands : goal.returns-in-Err-clause-stands
returns-in-Err-clause-stands g c =
    (stands_back c.args.vertices.now c.args.borders.now (g.I.SegIndex.held c.args.index.now) c.requires.stands c.lay_new.new.keys.items c.lay_new.new.vertices c.lay_new.ensures.put c.lay_new.ensures.distinct
    c.lay_new.new.borders c.in-Err.ensures.err (g.I.SegIndex.held c.lay_new.new.index) c.lay_new.ensures.holds c.remove_all_lonely.new.vertices
    (subst (λ z. LeavesVisited c.lay_new.new.borders z c.lay_new.new.vertices c.remove_all_lonely.new.vertices) c.as_slice.ensures.value c.remove_all_lonely.ensures)).0

pub returns-in-Err-clause-kept : goal.returns-in-Err-clause-kept
returns-in-Err-clause-kept g c =
    let e = (stands_back c.args.vertices.now c.args.borders.now (g.I.SegIndex.held c.args.index.now) c.requires.stands c.lay_new.new.keys.items c.lay_new.new.vertices c.lay_new.ensures.put c.lay_new.ensures.distinct
    c.lay_new.new.borders c.in-Err.ensures.err (g.I.SegIndex.held c.lay_new.new.index) c.lay_new.ensures.holds c.remove_all_lonely.new.vertices
    (subst (λ z. LeavesVisited c.lay_new.new.borders z c.lay_new.new.vertices c.remove_all_lonely.new.vertices) c.as_slice.ensures.value c.remove_all_lonely.ensures)).1 in
    λ k p h. ap (λ z. table.get z k) e ∙ h
