use Rattle.kit_words.proofs.Common.{◌<◌, ◌≤◌, subst, length, arith}
use Rattle.std.proofs.Common.{take_all}
use Rattle.map_frame.specs.declared.names.RingName.{RingName}
use Rattle.point_queries.specs.Common.{HaveOdd}
use Rattle.point_queries.proofs.Cancelling.{have_more}
use Rattle.point_queries.proofs.near.odd_names.Goals as goal

abbrev none : RingName
none = record { feature = 0; polygon = 0; ring = 0 }

pub loop-name-preserved : goal.loop-name-preserved
loop-name-preserved g c =
    let names = c.args.names.now in
    let within : c.loop-name.name-index < length names = omega (arith, c.loop-name-test.true) in
    have_more names c.loop-name.name-index none c.loop-name.found.items c.cancel.new.names.items within
    c.loop-name.invariant c.in_ok-cancel.ensures.odds c.in_ok-cancel.ensures.among

pub returns : goal.returns
returns g c =
    let names = c.args.names.now in
    let past : length names ≤ c.loop-name.name-index = omega (arith, c.loop-name-test.false) in
    subst (λ z. HaveOdd z c.loop-name.found.items) (take_all c.loop-name.name-index names past) c.loop-name.invariant
