use Rattle.feature_exchange.proofs.RingAround.{next_around}
use Rattle.feature_exchange.proofs.ring_iter.RingIterIterator.next.Goals as goal

pub invariant_of-self-2 : goal.invariant_of-self-2
invariant_of-self-2 g c =
    let m = c.self.inside in
    next_around m.vertices.now m.all m.rest c.in_ok-k.k c.next_key.new.rest m.left c.self.invariant c.in_ok-k.ensures.some
