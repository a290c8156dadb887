use Rattle.kit_words.proofs.Common.{◌≡◌, ◌-◌, suc, subst, take, arith, IfSome}
use Rattle.undo_ring.specs.Common.{AreCovered}
use Rattle.undo_ring.proofs.NearLemmas.{one_back}
use Rattle.undo_ring.proofs.near.Near.step_back.Goals as goal

pub returns-else-self-eq0 : goal.returns-else-self-eq0
returns-else-self-eq0 g c =
    let s = c.args.self.now in
    let one : s.since ≡ suc (s.since - 1) = omega (arith, c.if-self-eq0.false) in
    λ d docs h. subst (λ n. IfSome s.boxes (λ boxes. AreCovered boxes (take n docs))) one (one_back s.boxes s.since d docs h)
