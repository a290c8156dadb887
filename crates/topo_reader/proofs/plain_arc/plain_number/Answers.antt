use Rattle.topo_reader.proofs.PlainNumbers.{minus_number, unsigned_number, opposite, kept}
use Rattle.topo_reader.proofs.plain_arc.plain_number.Goals as goal

pub returns-in-Some : goal.returns-in-Some
returns-in-Some c = minus_number _ c.in-Some.body.now c.in_ok-size.size _ _ c.in-Some.ensures c.in_ok-size.ensures (opposite _ c.in_ok-size.ensures.small)

pub returns : goal.returns
returns c = unsigned_number _ c.in_ok-value.value _ _ c.in_ok-value.ensures (kept _ c.in_ok-value.ensures.small)
