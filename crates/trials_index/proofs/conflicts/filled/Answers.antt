use Rattle.std.proofs.Common.{◌≡◌, false, [], refl, Option, None, Some}
use Rattle.std.specs.Option.{is_some}
use Rattle.local_planarity.proofs.Filling.{filled_none, filled_apart}
use Rattle.trials_index.proofs.conflicts.filled.Goals as goal

pub loop-s-init : goal.loop-s-init
loop-s-init g c = ([], filled_none (g.I.SegIndex.held c.args.index) c.requires)

none_is : {A : Type 0} (o : Option A) → is_some o ≡ false → o ≡ None
none_is None h = refl
none_is (Some a) h = cc

pub returns : goal.returns
returns g c =
    let none : is_some c.loop-s.first ≡ false = cc in
    filled_apart (g.I.SegIndex.held c.loop-s.index) c.loop-s.first c.loop-s.invariant.0 c.loop-s.invariant.1
    (none_is c.loop-s.first none)
