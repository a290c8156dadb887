use Rattle.kit_words.proofs.Common.{arith, ◌+◌, ◌-◌, ◌<◌, ◌∙◌, ap, length, get_or, take, drop}
use Rattle.topo_writer.proofs.Cuts.{between_at, between_count, rising_at}
use Rattle.topo_writer.proofs.cutting.CutRing.piece.Goals as goal

-- the piece begins at a place with a place after it
pub index-requires : goal.index-requires
index-requires g c =
    omega (arith, c.requires, ap length c.self.view_is, between_count c.self.inside.way.items c.self.inside.cuts.items)

pub overflow_add-i : goal.overflow_add-i
overflow_add-i g c =
    omega (arith, c.requires, ap length c.self.view_is, between_count c.self.inside.way.items c.self.inside.cuts.items)

pub index-requires-2 : goal.index-requires-2
index-requires-2 g c =
    omega (arith, c.requires, ap length c.self.view_is, between_count c.self.inside.way.items c.self.inside.cuts.items)

pub part-requires-clause-rising : goal.part-requires-clause-rising
part-requires-clause-rising g c =
    let cuts = c.self.inside.cuts.items in
    let within : c.args.i + 1 < length cuts =
    omega (arith, c.requires, ap length c.self.view_is, between_count c.self.inside.way.items cuts) in
    (rising_at _ cuts c.args.i _ _ within c.self.invariant c.index.ensures c.index-2.ensures).0

pub part-requires-clause-there : goal.part-requires-clause-there
part-requires-clause-there g c =
    let cuts = c.self.inside.cuts.items in
    let within : c.args.i + 1 < length cuts =
    omega (arith, c.requires, ap length c.self.view_is, between_count c.self.inside.way.items cuts) in
    omega (arith, (rising_at _ cuts c.args.i _ _ within c.self.invariant c.index.ensures c.index-2.ensures).1, ap length c.as_slice.ensures.value)

pub returns : goal.returns
returns g c =
    let way = c.self.inside.way.items in
    let cuts = c.self.inside.cuts.items in
    let from = c.index.result.now in
    let to = c.index-2.result.now in
    let within : c.args.i + 1 < length cuts = omega (arith, c.requires, ap length c.self.view_is, between_count way cuts) in
    c.part.ensures ∙ ap (λ z. take (to + 1 - from) (drop from z)) c.as_slice.ensures.value
    ∙ between_at way cuts c.args.i from to c.part.result.now within c.index.ensures c.index-2.ensures
    ∙ ap (λ z. get_or z c.args.i c.part.result.now) c.self.view_is
