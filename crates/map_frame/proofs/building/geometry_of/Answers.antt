use Rattle.kit_words.proofs.Common.{◌∙◌, sym, ap}
use Rattle.map_frame.specs.Common.{alone_or, lone}
use Rattle.map_frame.proofs.building.geometry_of.Goals as goal

pub returns-in-Some : goal.returns-in-Some
returns-in-Some g c = ap (alone_or c.args.slots) (sym (ap lone (sym c.as_slice.ensures.value) ∙ sym c.in-Some.ensures))

pub returns : goal.returns
returns g c = ap (alone_or c.args.slots) (sym (ap lone (sym c.as_slice.ensures.value) ∙ sym c.in-None.ensures))
